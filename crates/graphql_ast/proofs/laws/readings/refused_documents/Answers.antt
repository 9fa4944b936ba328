use Rattle.std.proofs.Common.{refl}
use Rattle.graphql_text.proofs.examples.TextReadings.{texts_refused}
use Rattle.graphql_ast.specs.lemmas.Documents as documents
use Rattle.graphql_ast.proofs.examples.DocumentReadings.{found}
use Rattle.graphql_ast.proofs.laws.readings.refused_documents.Goals as goal

pub returns : goal.returns
unfolding found
returns c = texts_refused documents.document_reader documents.document_is_read _ refl
