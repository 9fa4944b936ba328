use Rattle.std.proofs.Common.{◌+◌, arith, ap₂, sym, ◌∙◌, map-id}
use Rattle.std.proofs.lemmas.Iterator.{YieldsList-from_chars}
use Rattle.std.proofs.lemmas.Iterator.Consumers.{YieldsList-end, YieldsList-so_far}
use Rattle.std.proofs.lemmas.List.Sums.{sum_by_push}
use Rattle.ast_json_nodes.specs.nodes.Offsets.{units}
use Rattle.ast_json_nodes.specs.declared.offsets.Offsets.TheVariants.{Bytes}
use Rattle.ast_json_nodes.proofs.nodes.OffsetUnits.{below_more, front_of, units_bounds}
use Rattle.ast_json_nodes.proofs.offsets.Offsets.front.Goals as goal

pub loop-character-preserved : goal.loop-character-preserved
loop-character-preserved c =
    let so_far = c.loop-character.yielded in
    let character = c.in-Some.character in
    let offsets = c.args.self in
    let inv = c.loop-character.invariant in
    let more = ap₂ (λ a b. a + b) inv.0 c.units-count.ensures ∙ sym (sum_by_push (units offsets) so_far character) in
    let bytes = ap₂ (λ a b. a + b) inv.1 c.len_utf8.ensures.value ∙ sym (sum_by_push (units Bytes) so_far character) in (
      more,
      bytes,
      omega (arith, inv.2, c.units-count.ensures, (units_bounds offsets character).0, c.len_utf8.ensures.upper_bound),
      omega (arith, c.if-count-from.false, c.from.ensures, c.units-count.ensures, (units_bounds offsets character).1),
      below_more (units offsets) so_far character c.args.offset inv.4 (omega (arith, inv.0, c.if-count-from.false, c.from.ensures)),
    )

pub returns-in-None : goal.returns-in-None
returns-in-None c =
    let so_far = c.loop-character.yielded in
    let inv = c.loop-character.invariant in
    let all = YieldsList-from_chars c.args.text.now c.utf8.text cc in
    let end = YieldsList-end all so_far _ c.loop-character.yielded_by _ _ c.in-None.is c.next.ensures.steps in
    front_of c.args.self c.args.text.now so_far c.args.offset _ _
    (sym (map-id so_far) ∙ YieldsList-so_far all so_far _ c.loop-character.yielded_by) inv.0 inv.1 inv.4
    (λ lt. absurd (omega (arith, lt, end.1)))

pub returns-then-count-from : goal.returns-then-count-from
returns-then-count-from c =
    let so_far = c.loop-character.yielded in
    let inv = c.loop-character.invariant in
    let all = YieldsList-from_chars c.args.text.now c.utf8.text cc in
    front_of c.args.self c.args.text.now so_far c.args.offset _ _
    (sym (map-id so_far) ∙ YieldsList-so_far all so_far _ c.loop-character.yielded_by) inv.0 inv.1 inv.4
    (λ _. omega (arith, inv.0, c.if-count-from.true, c.from.ensures))
