use Rattle.std.proofs.Common.{◌≡◌, ◌++◌, take}
use Rattle.std.specs.List.{flat_map}
use Rattle.graphql_text.specs.trees.Leaves.{node_trees}
use Rattle.graphql_flaws.specs.FoundFlaws.{found_by}
use Rattle.graphql_flaws.proofs.parts.push_nodes.Given as goal

abbrev pub invariant-loop-index : goal.invariant-loop-index
invariant-loop-index g l =
    found_by l.search
    ≡ found_by l.fn.search ++ flat_map g.T.SyntaxTree.kind.flaws (node_trees g.T.SyntaxTree.tree (take l.index l.nodes))
