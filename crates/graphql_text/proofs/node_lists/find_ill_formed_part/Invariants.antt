use Rattle.std.proofs.Common.{◌≡◌, drop}
use Rattle.std.specs.List.{flat_map}
use Rattle.graphql_text.specs.kinds.Flaws.{first_flaw}
use Rattle.graphql_text.specs.trees.Leaves.{node_trees}
use Rattle.graphql_text.proofs.node_lists.find_ill_formed_part.Given as goal

abbrev pub invariant-loop-part : goal.invariant-loop-part
invariant-loop-part g l =
    let flaws = flat_map g.P.SyntaxTree.kind.flaws in
    let trees = node_trees g.P.SyntaxTree.tree in
    first_flaw (flaws (trees (drop l.part-index l.parts))) ≡ first_flaw (flaws (trees l.parts))
