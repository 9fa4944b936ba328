use Rattle.std.proofs.Common.{◌≡◌, ℕ, ◌∷◌, ◌++◌, map, flat_map, length, take, drop, List, Bor, lit<, append_assoc}
use Rattle.std.specs.List.{repeat}
use Rattle.std.proofs.lemmas.List.{map_push, flat_map_more}
use Rattle.std.proofs.lemmas.Iterator.Splits.{YieldsList-from_str_split}
use Rattle.std.proofs.lemmas.Iterator.Consumers.{YieldsList-at, YieldsList-end, YieldsList-so_far}
use Rattle.graphql_text.specs.strings.BlockStringValue.{lines_of}
use Rattle.graphql_text.specs.lexical.Characters.{quotes}
use Rattle.graphql_text.specs.strings.BlockForm.{broken_line}
use Rattle.graphql_text.proofs.strings.StringsInUtf8.{break_in_chars}
use Rattle.graphql_text.proofs.strings.EscapeRuns.{flat_parted}
use Rattle.graphql_text.proofs.strings.LinesOneByOne.{parts_joined}
use Rattle.graphql_text.proofs.block_string.write_over_lines.Goals as goal

pub returns-then-is_stopped : goal.returns-then-is_stopped
returns-then-is_stopped g c =
    let indent : List ℕ = repeat c.args.level c.args.prefix.now in
    let lines : List (List ℕ) = lines_of c.args.value.now in
    let n : ℕ = length c.loop-line.yielded in
    let front : map (λ (x : Bor (List ℕ)). x.now) c.loop-line.yielded ≡ take n lines = YieldsList-so_far
    (YieldsList-at c.into_iter-line-iterator.ensures.into_iter_gives
    (YieldsList-from_str_split 10 c.args.value.now
    (lit< tt) c.split-line-items.ensures.text c.split-line-items.ensures.has_more c.split-line-items.ensures.pattern))
    c.loop-line.yielded _ c.loop-line.yielded_by in
    let done : List ℕ = flat_map (broken_line indent) (take n lines) in
    let left : List ℕ = flat_map (broken_line indent) (drop n lines) in
    let idle = g.met.O.Target.idle _ (left ++ ((10 ∷ indent) ++ quotes)) (c.is_stopped.ensures.0 c.if-is_stopped.true) in
    rw (
      ← flat_parted (broken_line indent) lines n,
      append_assoc done left ((10 ∷ indent) ++ quotes),
      ← append_assoc quotes done (left ++ ((10 ∷ indent) ++ quotes)),
    )
    (g.met.O.Target.more _ _ _ _ _ (rw front at c.loop-line.invariant) idle)

pub loop-line-preserved : goal.loop-line-preserved
loop-line-preserved g c =
    let indent : List ℕ = repeat c.args.level c.args.prefix.now in
    let seen : List (List ℕ) = map (λ (x : Bor (List ℕ)). x.now) c.loop-line.yielded in
    simp map_push (rw (← flat_map_more (broken_line indent) quotes seen c.in-Some.line.now)
    (g.met.O.Target.more _ _ _ _ _ c.loop-line.invariant c.write_line.ensures))

pub returns : goal.returns
returns g c =
    let all = YieldsList-end
    (YieldsList-at c.into_iter-line-iterator.ensures.into_iter_gives
    (YieldsList-from_str_split 10 c.args.value.now
    (lit< tt) c.split-line-items.ensures.text c.split-line-items.ensures.has_more c.split-line-items.ensures.pattern))
    c.loop-line.yielded _ c.loop-line.yielded_by _ _ c.in-None.is c.next.ensures.steps in
    let e : map (λ (x : Bor (List ℕ)). x.now) c.loop-line.yielded ≡ lines_of c.args.value.now = all.0 in
    let indent : List ℕ = repeat c.args.level c.args.prefix.now in
    let body : List ℕ = flat_map (broken_line indent) (lines_of c.args.value.now) in
    rw (← parts_joined quotes body (10 ∷ indent) quotes)
    (g.met.O.Target.more _ _ _ _ _ (g.met.O.Target.more _ _ _ _ _ (rw e at c.loop-line.invariant)
    (rw (← break_in_chars c.args.level c.args.prefix.now c.utf8.prefix) at c.line_break.ensures))
    c.text-2.ensures)
