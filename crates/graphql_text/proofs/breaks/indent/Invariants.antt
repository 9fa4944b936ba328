use Rattle.std.specs.List.{repeat}
use Rattle.graphql_text.proofs.breaks.indent.Given as goal

abbrev pub invariant-loop : goal.invariant-loop
invariant-loop g l = g.O.Target.wrote l.fn.out (repeat l.counter l.prefix) l.out
