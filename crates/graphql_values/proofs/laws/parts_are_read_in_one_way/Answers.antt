use Rattle.graphql_text.proofs.parts.KindParts.{description_part}
use Rattle.graphql_text.proofs.parts.Parts.{part_one_way}
use Rattle.graphql_values.specs.lemmas.Directives.{argument_part, arguments_part, directive_part, directives_part}
use Rattle.graphql_values.specs.lemmas.InputValueDefinitions.{arguments_definition_part, default_value_part}
use Rattle.graphql_values.specs.lemmas.OperationTypes.{operation_type_part}
use Rattle.graphql_values.specs.lemmas.Values.{value_part}
use Rattle.graphql_values.proofs.laws.parts_are_read_in_one_way.Goals as goal

pub returns-clause-values : goal.returns-clause-values
returns-clause-values c = λ k. part_one_way (value_part k)

pub returns-clause-arguments : goal.returns-clause-arguments
returns-clause-arguments c = λ k. part_one_way (argument_part k)

pub returns-clause-argument_lists : goal.returns-clause-argument_lists
returns-clause-argument_lists c = λ k. part_one_way (arguments_part k)

pub returns-clause-directives : goal.returns-clause-directives
returns-clause-directives c = λ k. part_one_way (directive_part k)

pub returns-clause-directive_lists : goal.returns-clause-directive_lists
returns-clause-directive_lists c = λ k. part_one_way (directives_part k)

pub returns-clause-descriptions : goal.returns-clause-descriptions
returns-clause-descriptions c = part_one_way description_part

pub returns-clause-default_values : goal.returns-clause-default_values
returns-clause-default_values c = part_one_way default_value_part

pub returns-clause-arguments_definitions : goal.returns-clause-arguments_definitions
returns-clause-arguments_definitions c = part_one_way arguments_definition_part

pub returns-clause-operation_types : goal.returns-clause-operation_types
returns-clause-operation_types c = part_one_way operation_type_part
