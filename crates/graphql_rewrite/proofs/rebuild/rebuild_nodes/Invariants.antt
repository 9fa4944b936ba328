use Rattle.graphql_base.specs.Node.{node_location, node_value}
use Rattle.graphql_rewrite.proofs.Lists.{IsMadeUpTo, StaysUpTo}
use Rattle.graphql_rewrite.proofs.rebuild.rebuild_nodes.Given as goal

abbrev pub invariant-loop-index : goal.invariant-loop-index
invariant-loop-index g l = record {
  made : IsMadeUpTo (λ node. g.T.Rebuild.tree (node_value node)) (g.T.Rebuild.rewritten (g.R.Rewriter.rewriting l.rewriter)) l.nodes l.index l.made;
  locations : StaysUpTo node_location l.nodes l.index l.made;
}
