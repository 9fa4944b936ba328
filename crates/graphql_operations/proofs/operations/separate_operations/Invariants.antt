use Rattle.graphql_ast.specs.Sources.{document_sources}
use Rattle.graphql_operations.specs.Operations.{HaveSources}
use Rattle.graphql_operations.proofs.Separated.{IsSeparatedUpTo}
use Rattle.graphql_operations.proofs.operations.separate_operations.Given as goal

abbrev pub invariant-loop-index : goal.invariant-loop-index
invariant-loop-index l = record {
  separated : IsSeparatedUpTo l.document.definitions.items l.index l.documents.items;
  sources : HaveSources (document_sources l.document) l.documents.items;
}
