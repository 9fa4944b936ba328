use Rattle.std.proofs.Common.{◌≡◌, ◌-◌, false, nat_lt, length, take}
use Rattle.std.specs.List.{list_any}
use Rattle.graphql_text.specs.strings.QuotedForm.{quoted_character}
use Rattle.graphql_text.proofs.quoted_string.has_escaped_in_pieces.Given as goal

abbrev pub invariant-loop-i : goal.invariant-loop-i
invariant-loop-i l = list_any (λ byte. nat_lt 1 (length (quoted_character byte))) (take l.i l.bytes) ≡ false

abbrev pub decreases-loop-i : goal.decreases-loop-i
decreases-loop-i l = l.last - l.i
