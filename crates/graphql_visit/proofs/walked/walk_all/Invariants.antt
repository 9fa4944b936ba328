use Rattle.std.proofs.Common.{drop, map}
use Rattle.graphql_visit.specs.Visits.{each}
use Rattle.graphql_visit.specs.Walks.{Walks}
use Rattle.graphql_visit.proofs.walked.walk_all.Given as goal

-- what walks over the nodes that are left walks over all
abbrev pub invariant-loop-item : goal.invariant-loop-item
invariant-loop-item g l = (answer : _) (t : _) →
    Walks g.V.Visitor.enters g.V.Visitor.leaves (each g.T.Walked.visited (map g.T.Walked.tree (drop l.item-index l.items))) l.visitor answer t →
    Walks g.V.Visitor.enters g.V.Visitor.leaves (each g.T.Walked.visited (map g.T.Walked.tree l.items)) l.fn.visitor answer t
