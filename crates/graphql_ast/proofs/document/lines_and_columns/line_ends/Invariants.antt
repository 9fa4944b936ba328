use Rattle.std.proofs.Common.{◌≡◌, ◌+◌, ◌≤◌, drop}
use Rattle.graphql_ast.proofs.LineEnds.{ends_in}
use Rattle.graphql_ast.proofs.document.lines_and_columns.line_ends.Given as goal

abbrev pub invariant-loop-byte : goal.invariant-loop-byte
invariant-loop-byte l =
    (l.count + ends_in l.is_behind_return (drop l.byte-index l.bytes) ≡ ends_in l.fn.is_behind_return l.bytes)
    × (l.count ≤ l.byte-index)
