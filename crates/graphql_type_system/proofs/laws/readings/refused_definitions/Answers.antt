use Rattle.std.proofs.Common.{refl}
use Rattle.graphql_text.proofs.examples.TextReadings.{parts_refuse}
use Rattle.graphql_type_system.specs.lemmas.Bodies.{enum_value_definition_part, field_definition_part}
use Rattle.graphql_type_system.specs.lemmas.Kinds.{enum_type_definition_part, input_object_type_definition_part}
use Rattle.graphql_type_system.specs.lemmas.Kinds.{interface_type_definition_part, object_type_definition_part, scalar_type_definition_part}
use Rattle.graphql_type_system.specs.lemmas.Kinds.{schema_definition_part, union_type_definition_part}
use Rattle.graphql_type_system.proofs.examples.TypeSystemReadings.{found}
use Rattle.graphql_type_system.proofs.laws.readings.refused_definitions.Goals as goal

pub returns-clause-object_type_definitions : goal.returns-clause-object_type_definitions
unfolding found
returns-clause-object_type_definitions c = parts_refuse object_type_definition_part _ refl

pub returns-clause-input_object_type_definitions : goal.returns-clause-input_object_type_definitions
unfolding found
returns-clause-input_object_type_definitions c = parts_refuse input_object_type_definition_part _ refl

pub returns-clause-schema_definitions : goal.returns-clause-schema_definitions
unfolding found
returns-clause-schema_definitions c = parts_refuse schema_definition_part _ refl

pub returns-clause-interface_type_definitions : goal.returns-clause-interface_type_definitions
unfolding found
returns-clause-interface_type_definitions c = parts_refuse interface_type_definition_part _ refl

pub returns-clause-union_type_definitions : goal.returns-clause-union_type_definitions
unfolding found
returns-clause-union_type_definitions c = parts_refuse union_type_definition_part _ refl

pub returns-clause-enum_type_definitions : goal.returns-clause-enum_type_definitions
unfolding found
returns-clause-enum_type_definitions c = parts_refuse enum_type_definition_part _ refl

pub returns-clause-enum_value_definitions : goal.returns-clause-enum_value_definitions
unfolding found
returns-clause-enum_value_definitions c = parts_refuse enum_value_definition_part _ refl

pub returns-clause-field_definitions : goal.returns-clause-field_definitions
unfolding found
returns-clause-field_definitions c = parts_refuse field_definition_part _ refl

pub returns-clause-scalar_type_definitions : goal.returns-clause-scalar_type_definitions
unfolding found
returns-clause-scalar_type_definitions c = parts_refuse scalar_type_definition_part _ refl
