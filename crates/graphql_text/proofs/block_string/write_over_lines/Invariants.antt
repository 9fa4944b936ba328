use Rattle.std.proofs.Common.{◌++◌, map, flat_map}
use Rattle.std.specs.List.{repeat}
use Rattle.graphql_text.specs.lexical.Characters.{quotes}
use Rattle.graphql_text.specs.strings.BlockForm.{broken_line}
use Rattle.graphql_text.proofs.block_string.write_over_lines.Given as goal

abbrev pub invariant-loop-line : goal.invariant-loop-line
invariant-loop-line g l = g.O.Target.wrote l.fn.out (quotes ++ flat_map (broken_line (repeat l.level l.prefix)) (map (λ x. x.now) l.yielded)) l.out
