use Rattle.std.proofs.Common.{◌≡◌, ◌++◌, take}
use Rattle.graphql_executable.specs.kinds.Selections.{selections_flaws}
use Rattle.graphql_executable.specs.trees.ExecutableTrees.{selection_trees}
use Rattle.graphql_flaws.specs.FoundFlaws.{found_by}
use Rattle.graphql_flaws.proofs.executable.+selections.Given as goal

abbrev pub invariant-push_selections-loop-index : goal.invariant-push_selections-loop-index
invariant-push_selections-loop-index l = found_by l.search ≡ found_by l.fn.search ++ selections_flaws (selection_trees (take l.index l.selections))
