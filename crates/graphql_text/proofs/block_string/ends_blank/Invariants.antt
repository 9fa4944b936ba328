use Rattle.std.proofs.Common.{◌≡◌, true, length}
use Rattle.graphql_text.proofs.strings.LinesByBytes.{blank_after}
use Rattle.graphql_text.proofs.block_string.ends_blank.Given as goal

abbrev pub invariant-loop-last : goal.invariant-loop-last
invariant-loop-last l = blank_after true l.value ≡ blank_after true l.rest

abbrev pub decreases-loop-last : goal.decreases-loop-last
decreases-loop-last l = length l.rest
