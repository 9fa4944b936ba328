use Rattle.std.proofs.Common.{◌≡◌, ◌+◌, ◌≤◌, length}
use Rattle.std.specs.Slice.Iter.{rchunks_rest, rchunks_size}
use Rattle.graphql_ast.proofs.LineEnds.{last_bytes}
use Rattle.graphql_ast.proofs.document.lines_and_columns.last_line_len.Given as goal

abbrev pub invariant-loop-bytes : goal.invariant-loop-bytes
invariant-loop-bytes l =
    (goal.iterator-loop-bytes).can_next l.bytes-iterator
    × (goal.iterator-loop-bytes).is_finite l.bytes-iterator
    × (rchunks_size l.bytes-iterator ≡ 240)
    × (last_bytes 0 (rchunks_rest l.bytes-iterator) + l.len ≡ last_bytes 0 l.text)
    × (l.len + length (rchunks_rest l.bytes-iterator) ≤ length l.text)
