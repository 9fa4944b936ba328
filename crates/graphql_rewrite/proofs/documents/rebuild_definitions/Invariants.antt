use Rattle.graphql_ast.specs.AstTrees.{definition_tree}
use Rattle.graphql_ast.specs.DefinitionQueries.{definition_location}
use Rattle.graphql_rewrite.specs.kinds.Documents.{rewritten_definition}
use Rattle.graphql_rewrite.proofs.Lists.{IsMadeUpTo, StaysUpTo}
use Rattle.graphql_rewrite.proofs.documents.rebuild_definitions.Given as goal

abbrev pub invariant-loop-index : goal.invariant-loop-index
invariant-loop-index g l = record {
  made : IsMadeUpTo definition_tree (rewritten_definition (g.R.Rewriter.rewriting l.rewriter)) l.definitions l.index l.made;
  locations : StaysUpTo definition_location l.definitions l.index l.made;
}
