use Rattle.std.proofs.Common.{◌≡◌, true, length}
use Rattle.graphql_text.proofs.strings.LinesByBytes.{some_unindented}
use Rattle.graphql_text.proofs.block_string.has_unindented_line.Given as goal

abbrev pub invariant-loop-first : goal.invariant-loop-first
invariant-loop-first l = some_unindented true l.value ≡ some_unindented l.is_line_start l.rest

abbrev pub decreases-loop-first : goal.decreases-loop-first
decreases-loop-first l = length l.rest
