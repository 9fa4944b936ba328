use Rattle.std.proofs.Common.{◌≡◌, ◌+◌, ◌≤◌, false, length}
use Rattle.std.specs.Slice.Iter.{chunks_rest, chunks_size}
use Rattle.graphql_ast.proofs.LineEnds.{ends_in}
use Rattle.graphql_ast.proofs.document.lines_and_columns.line_terminators.Given as goal

abbrev pub invariant-loop-bytes : goal.invariant-loop-bytes
invariant-loop-bytes l =
    (goal.iterator-loop-bytes).can_next l.bytes-iterator
    × (goal.iterator-loop-bytes).is_finite l.bytes-iterator
    × (chunks_size l.bytes-iterator ≡ 240)
    × (l.count + ends_in l.is_behind_return (chunks_rest l.bytes-iterator) ≡ ends_in false l.text)
    × (l.count + length (chunks_rest l.bytes-iterator) ≤ length l.text)
