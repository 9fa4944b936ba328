use Rattle.std.proofs.Common.{◌≡◌, max, drop}
use Rattle.graphql_executable.specs.trees.ExecutableTrees.{selection_trees}
use Rattle.graphql_executable.specs.kinds.Selections.{selection_set_nesting}
use Rattle.graphql_executable.proofs.selection.print.+nesting.Given as goal

abbrev pub invariant-find_selection_set_nesting-loop-selection : goal.invariant-find_selection_set_nesting-loop-selection
invariant-find_selection_set_nesting-loop-selection l =
    max l.most (selection_set_nesting (selection_trees (drop l.selection-index l.selections)))
    ≡ selection_set_nesting (selection_trees l.selections)
