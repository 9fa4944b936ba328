use Rattle.std.proofs.Common.{◌≡◌, length}
use Rattle.graphql_text.proofs.strings.LinesByBytes.{first_blank}
use Rattle.graphql_text.proofs.block_string.begins_blank.Given as goal

abbrev pub invariant-loop-first : goal.invariant-loop-first
invariant-loop-first l = first_blank l.value ≡ first_blank l.rest

abbrev pub decreases-loop-first : goal.decreases-loop-first
decreases-loop-first l = length l.rest
