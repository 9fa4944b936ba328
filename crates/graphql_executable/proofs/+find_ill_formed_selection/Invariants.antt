use Rattle.std.proofs.Common.{◌≡◌, drop}
use Rattle.graphql_text.specs.kinds.Flaws.{first_flaw}
use Rattle.graphql_executable.specs.trees.ExecutableTrees.{selection_trees}
use Rattle.graphql_executable.specs.kinds.Selections.{selections_flaws}
use Rattle.graphql_executable.proofs.+find_ill_formed_selection.Given as goal

abbrev pub invariant-selection::print::find_ill_formed_selection-loop-selection : goal.invariant-selection::print::find_ill_formed_selection-loop-selection
invariant-selection::print::find_ill_formed_selection-loop-selection l =
    first_flaw (selections_flaws (selection_trees (drop l.selection-index l.selections))) ≡ first_flaw (selections_flaws (selection_trees l.selections))
