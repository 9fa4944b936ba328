use Rattle.std.proofs.Common.{refl}
use Rattle.graphql_text.proofs.examples.TextReadings.{parts_refuse, parts_refuse}
use Rattle.graphql_values.specs.kinds.Values.{Const, NonConst}
use Rattle.graphql_values.specs.lemmas.DirectiveDefinitions.{directive_definition_part}
use Rattle.graphql_values.specs.lemmas.Directives.{directive_part}
use Rattle.graphql_values.specs.lemmas.InputValueDefinitions.{input_value_definition_part}
use Rattle.graphql_values.specs.lemmas.Values.{value_part}
use Rattle.graphql_values.proofs.examples.ValueReadings.{found}
use Rattle.graphql_values.proofs.laws.readings.refused_readings.Goals as goal

pub returns-clause-values : goal.returns-clause-values
unfolding found
returns-clause-values c = parts_refuse (value_part NonConst) _ refl

pub returns-clause-directives : goal.returns-clause-directives
unfolding found
returns-clause-directives c = parts_refuse (directive_part NonConst) _ refl

pub returns-clause-constants : goal.returns-clause-constants
unfolding found
returns-clause-constants c = parts_refuse (value_part Const) _ refl

pub returns-clause-input_value_definitions : goal.returns-clause-input_value_definitions
unfolding found
returns-clause-input_value_definitions c = parts_refuse input_value_definition_part _ refl

pub returns-clause-directive_definitions : goal.returns-clause-directive_definitions
unfolding found
returns-clause-directive_definitions c = parts_refuse directive_definition_part _ refl
