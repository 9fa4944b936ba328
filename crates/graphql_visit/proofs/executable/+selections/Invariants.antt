use Rattle.std.proofs.Common.{drop, map}
use Rattle.graphql_executable.specs.trees.ExecutableTrees.{selection_tree, selection_trees}
use Rattle.graphql_visit.specs.Visits.{each}
use Rattle.graphql_visit.specs.Walks.{Walks}
use Rattle.graphql_visit.specs.kinds.Executable.{selection_visited, selections_visits}
use Rattle.graphql_visit.proofs.executable.+selections.Given as goal

-- what walks over the selections that are left walks over all
abbrev pub invariant-walk_selections-loop-selection : goal.invariant-walk_selections-loop-selection
invariant-walk_selections-loop-selection g l = (answer : _) (t : _) →
    Walks g.V.Visitor.enters g.V.Visitor.leaves (each selection_visited (map selection_tree (drop l.selection-index l.selections))) l.visitor answer t →
    Walks g.V.Visitor.enters g.V.Visitor.leaves (selections_visits (selection_trees l.selections)) l.fn.visitor answer t
