use Rattle.std.proofs.Common.{◌≡◌, drop}
use Rattle.graphql_executable.specs.trees.ExecutableTrees.{selection_trees}
use Rattle.graphql_executable.specs.kinds.Selections.{selections_obey}
use Rattle.graphql_executable.proofs.selection.+selection_is_well_formed.Given as goal

abbrev pub invariant-print::are_selections_well_formed-loop-selection : goal.invariant-print::are_selections_well_formed-loop-selection
invariant-print::are_selections_well_formed-loop-selection l =
    selections_obey (selection_trees (drop l.selection-index l.selections)) ≡ selections_obey (selection_trees l.selections)
