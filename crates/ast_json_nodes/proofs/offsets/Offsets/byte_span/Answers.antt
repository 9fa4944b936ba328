use Rattle.std.proofs.Common.{ℕ, IsSome, arith, refl, subst, sym}
use Rattle.graphql_base.specs.Span.{span_end, span_start}
use Rattle.ast_json_nodes.specs.declared.offsets.Offsets.{Offsets}
use Rattle.ast_json_nodes.specs.nodes.Offsets.{IsByteOf}
use Rattle.ast_json_nodes.proofs.nodes.OffsetUnits.{bytes_grow}
use Rattle.ast_json_nodes.proofs.offsets.Offsets.byte_span.Goals as goal

pub returns-in_err-start-clause-none : goal.returns-in_err-start-clause-none
returns-in_err-start-clause-none c = λ _ bytes first last is. c.in_err-start.ensures.none refl (span_start bytes) first
    (subst (λ offset. IsByteOf c.args.self c.args.text.now offset (span_start bytes)) (sym c.start.ensures) is.1)

pub returns-in_err-end-clause-none : goal.returns-in_err-end-clause-none
returns-in_err-end-clause-none c = λ _ bytes first last is. c.in_err-end.ensures.none refl (span_end bytes) last
    (subst (λ offset. IsByteOf c.args.self c.args.text.now offset (span_end bytes)) (sym c.end.ensures) is.2)

pub returns-clause-none : goal.returns-clause-none
returns-clause-none c = λ none _ _ _ _.
    let at : Offsets → ℕ → ℕ → Type 0 = λ offsets offset byte. IsByteOf offsets c.args.text.now offset byte in
    let ordered = bytes_grow c.args.self c.args.text.now _ _ _ _ c.args.span.ordered
    (subst (λ offset. at c.args.self offset c.in_ok-start.start) c.start.ensures c.in_ok-start.ensures.some)
    (subst (λ offset. at c.args.self offset c.in_ok-end.end) c.end.ensures c.in_ok-end.ensures.some) in
    grind (arith, subst IsSome none (c.new.ensures.ordered.1 ordered))
