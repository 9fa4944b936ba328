use Rattle.graphql_text.proofs.parts.KindParts.{description_part}
use Rattle.graphql_text.proofs.parts.Parts.{part_always_derives}
use Rattle.graphql_values.specs.lemmas.Directives.{argument_part, arguments_part, directive_part, directives_part}
use Rattle.graphql_values.specs.lemmas.InputValueDefinitions.{arguments_definition_part, default_value_part}
use Rattle.graphql_values.specs.lemmas.OperationTypes.{operation_type_part}
use Rattle.graphql_values.specs.lemmas.Values.{value_part}
use Rattle.graphql_values.proofs.laws.kinds.printed_tokens_derive_the_tree.Goals as goal

pub returns-clause-values : goal.returns-clause-values
returns-clause-values c = λ k. part_always_derives (value_part k)

pub returns-clause-arguments : goal.returns-clause-arguments
returns-clause-arguments c = λ k. part_always_derives (argument_part k)

pub returns-clause-argument_lists : goal.returns-clause-argument_lists
returns-clause-argument_lists c = λ k. part_always_derives (arguments_part k)

pub returns-clause-directives : goal.returns-clause-directives
returns-clause-directives c = λ k. part_always_derives (directive_part k)

pub returns-clause-directive_lists : goal.returns-clause-directive_lists
returns-clause-directive_lists c = λ k. part_always_derives (directives_part k)

pub returns-clause-descriptions : goal.returns-clause-descriptions
returns-clause-descriptions c = part_always_derives description_part

pub returns-clause-default_values : goal.returns-clause-default_values
returns-clause-default_values c = part_always_derives default_value_part

pub returns-clause-arguments_definitions : goal.returns-clause-arguments_definitions
returns-clause-arguments_definitions c = part_always_derives arguments_definition_part

pub returns-clause-operation_types : goal.returns-clause-operation_types
returns-clause-operation_types c = part_always_derives operation_type_part
