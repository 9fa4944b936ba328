use Rattle.std.proofs.Common.{◌≡◌, []}
use Rattle.graphql_executable.specs.trees.ExecutableTrees.{selection_tree}
use Rattle.graphql_locations.specs.Leaves.{list_locations}
use Rattle.graphql_locations.specs.kinds.Executable.{selection_locations}
use Rattle.graphql_locations.proofs.PartsStripped.{IsMadeUpTo}
use Rattle.graphql_locations.proofs.executable.+selections.Given as goal

abbrev pub invariant-strip_selections-loop-selection : goal.invariant-strip_selections-loop-selection
invariant-strip_selections-loop-selection l = record {
  trees : IsMadeUpTo selection_tree l.selections l.selection-index l.made.items;
  locations : list_locations selection_locations l.made.items ≡ [];
}
