use Rattle.std.proofs.Common.{◌≡◌, ◌+◌, ◌≤◌, length}
use Rattle.graphql_ast.specs.LinesAndColumns.{position_behind}
use Rattle.graphql_ast.proofs.LinesAndColumnsSteps.{ends_with_return}
use Rattle.graphql_ast.proofs.document.lines_and_columns.position_by_characters.Given as goal

abbrev pub invariant-loop-character : goal.invariant-loop-character
invariant-loop-character l =
    (l.position ≡ position_behind l.yielded)
    × (l.is_behind_return ≡ ends_with_return l.yielded)
    × (l.position.line + l.position.column ≤ length l.yielded + 2)
