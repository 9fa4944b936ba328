use Rattle.std.proofs.Common.{◌≡◌, ℕ, ◌+◌, ◌-◌, ◌++◌, List, arith, length}
use Rattle.std.specs.List.{repeat}
use Rattle.graphql_text.proofs.layout.TextOfItems.{repeat_front, repeat_more, repeat_nothing}
use Rattle.graphql_text.proofs.strings.StringsInUtf8.{repeat_in_chars}
use Rattle.graphql_text.proofs.breaks.indent.Goals as goal

pub returns-then-is_empty : goal.returns-then-is_empty
returns-then-is_empty g c =
    let none : length c.args.prefix.now ≡ 0 = grind arith in
    rw (← repeat_in_chars c.args.level c.args.prefix.now c.utf8.prefix, repeat_nothing c.args.level c.args.prefix.now none) (g.met.O.Target.nothing _)

pub returns-then-is_stopped : goal.returns-then-is_stopped
returns-then-is_stopped g c =
    let p : List ℕ = c.args.prefix.now in
    let rest : List ℕ = p ++ repeat (c.args.level - (c.loop.counter + 1)) p in
    rw (← repeat_in_chars c.args.level p c.utf8.prefix, repeat_front c.loop.counter c.args.level p (omega arith))
    (g.met.O.Target.more _ _ _ _ _ c.loop.invariant (g.met.O.Target.idle _ rest (c.is_stopped.ensures.0 c.if-is_stopped.true)))

pub loop-preserved : goal.loop-preserved
loop-preserved g c = rw (← repeat_more c.loop.counter c.args.prefix.now) (g.met.O.Target.more _ _ _ _ _ c.loop.invariant c.text.ensures)

pub returns : goal.returns
returns g c =
    let all : c.loop.counter ≡ c.args.level = omega arith in
    rw (← repeat_in_chars c.args.level c.args.prefix.now c.utf8.prefix, ← all) c.loop.invariant
