use Rattle.std.proofs.Common.{refl}
use Rattle.graphql_text.proofs.examples.TextReadings.{parts_refuse, texts_refused}
use Rattle.graphql_executable.proofs.examples.ExecutableReadings as executable
use Rattle.graphql_executable.specs.lemmas.Heads.{fragment_spread_part}
use Rattle.graphql_executable.specs.lemmas.Selections.{field_part, inline_fragment_part}
use Rattle.graphql_executable.specs.lemmas.VariableDefinitions.{variable_definition_part}
use Rattle.graphql_ast.specs.lemmas.Definitions.{definition_part}
use Rattle.graphql_ast.specs.lemmas.Documents as documents
use Rattle.graphql_ast.proofs.examples.DocumentReadings.{found}
use Rattle.graphql_ast.proofs.laws.edges.edge_refusals.Goals as goal

pub returns-clause-documents : goal.returns-clause-documents
unfolding found
returns-clause-documents c = texts_refused documents.document_reader documents.document_is_read _ refl

pub returns-clause-definitions : goal.returns-clause-definitions
unfolding found
returns-clause-definitions c = parts_refuse definition_part _ refl

pub returns-clause-fields : goal.returns-clause-fields
unfolding executable.found
returns-clause-fields c = parts_refuse field_part _ refl

pub returns-clause-inline_fragments : goal.returns-clause-inline_fragments
unfolding executable.found
returns-clause-inline_fragments c = parts_refuse inline_fragment_part _ refl

pub returns-clause-fragment_spreads : goal.returns-clause-fragment_spreads
unfolding executable.found
returns-clause-fragment_spreads c = parts_refuse fragment_spread_part _ refl

pub returns-clause-variable_definitions : goal.returns-clause-variable_definitions
unfolding executable.found
returns-clause-variable_definitions c = parts_refuse variable_definition_part _ refl
