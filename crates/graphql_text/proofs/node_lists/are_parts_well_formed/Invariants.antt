use Rattle.std.proofs.Common.{◌≡◌, drop}
use Rattle.std.specs.List.{list_all}
use Rattle.graphql_text.specs.trees.Leaves.{node_trees}
use Rattle.graphql_text.proofs.node_lists.are_parts_well_formed.Given as goal

abbrev pub invariant-loop-part : goal.invariant-loop-part
invariant-loop-part g l =
    let obeys = g.P.SyntaxTree.kind.obeys in
    let trees = node_trees g.P.SyntaxTree.tree in
    list_all obeys (trees (drop l.part-index l.parts)) ≡ list_all obeys (trees l.parts)
