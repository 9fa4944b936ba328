use Rattle.graphql_rewrite.proofs.SideConditionsKept.{definition_kept, document_kept}
use Rattle.graphql_rewrite.proofs.laws.side_conditions_are_kept.Goals as goal

pub returns-clause-definitions : goal.returns-clause-definitions
returns-clause-definitions c = definition_kept

pub returns-clause-documents : goal.returns-clause-documents
returns-clause-documents c = document_kept
