use Rattle.std.proofs.Common.{◌≡◌, ◌≤◌, ◌||◌, count_by, nat_lt, take}
use Rattle.graphql_ast.proofs.document.lines_and_columns.characters_begun.Given as goal

abbrev pub invariant-loop-byte : goal.invariant-loop-byte
invariant-loop-byte l =
    (l.count ≡ count_by (λ c. nat_lt c 0x80 || nat_lt 0xBF c) (take l.byte-index l.bytes))
    × (l.count ≤ l.byte-index)
