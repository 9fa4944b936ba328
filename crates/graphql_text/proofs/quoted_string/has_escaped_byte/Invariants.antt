use Rattle.std.proofs.Common.{◌≡◌, nat_lt, length, take}
use Rattle.std.specs.List.{list_any}
use Rattle.graphql_text.specs.strings.QuotedForm.{quoted_character}
use Rattle.graphql_text.proofs.quoted_string.has_escaped_byte.Given as goal

abbrev pub invariant-loop-byte : goal.invariant-loop-byte
invariant-loop-byte l = l.found ≡ list_any (λ byte. nat_lt 1 (length (quoted_character byte))) (take l.byte-index l.bytes)
