use Rattle.std.proofs.Common.{◌≡◌, ◌+◌, ◌≤◌, length}
use Rattle.std.specs.Slice.Iter.{iter_rest}
use Rattle.std.specs.Iterator.Adapters.{rev_source}
use Rattle.graphql_ast.proofs.LineEnds.{last_bytes}
use Rattle.graphql_ast.proofs.document.lines_and_columns.characters_behind_line_end.Given as goal

abbrev pub invariant-loop-byte : goal.invariant-loop-byte
invariant-loop-byte l =
    (goal.iterator-loop-byte).can_next l.byte-iterator
    × (goal.iterator-loop-byte).is_finite l.byte-iterator
    × (last_bytes 0 (iter_rest (rev_source l.byte-iterator)) + l.len ≡ last_bytes 0 l.bytes)
    × (l.len + length (iter_rest (rev_source l.byte-iterator)) ≤ length l.bytes)
