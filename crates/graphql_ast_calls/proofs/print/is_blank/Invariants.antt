use Rattle.std.proofs.Common.{◌≡◌, drop}
use Rattle.graphql_text.specs.strings.BlockStringValue.{is_blank}
use Rattle.graphql_ast_calls.proofs.print.is_blank.Given as goal

abbrev pub invariant-loop-byte : goal.invariant-loop-byte
invariant-loop-byte l = is_blank (drop l.byte-index l.bytes) ≡ is_blank l.bytes
