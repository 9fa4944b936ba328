use Rattle.std.proofs.Common.{◌≡◌, drop, map, max}
use Rattle.graphql_text.specs.parts.Greatest.{greatest}
use Rattle.graphql_text.specs.trees.Leaves.{node_trees}
use Rattle.graphql_text.specs.layout.Levels.{capped}
use Rattle.graphql_text.specs.layout.Nesting.{group_nesting}
use Rattle.graphql_text.proofs.node_lists.find_parts_depths.Given as goal

abbrev pub invariant-loop-part : goal.invariant-loop-part
invariant-loop-part g l =
    let nesting = g.P.SyntaxTree.kind.nesting in
    let lists = greatest g.P.SyntaxTree.list_depth in
    let trees = node_trees g.P.SyntaxTree.tree in
    record {
      nesting : max l.most.nesting (group_nesting (map nesting (trees (drop l.part-index l.parts)))) ≡ group_nesting (map nesting (trees l.parts));
      lists : max l.most.lists (capped (lists (trees (drop l.part-index l.parts)))) ≡ capped (lists (trees l.parts));
    }
