-- What is looked up by name: the fields of object and interface types, and the values of enum types.
use Rattle.std.specs.Prelude.{ℕ, Bool, List, Option}
use Rattle.std.specs.List.{find}
use Rattle.graphql_base.specs.declared.node.Node.{Node}
use Rattle.graphql_base.specs.Node.{node_value}
use Rattle.graphql_values.specs.code.Queries.{is_named}
use Rattle.graphql_type_system.specs.declared.field_definition.FieldDefinition.{FieldDefinition}
use Rattle.graphql_type_system.specs.declared.enum_value_definition.EnumValueDefinition.{EnumValueDefinition}

abbrev pub is_field_definition_named : List ℕ → Node FieldDefinition → Bool
is_field_definition_named text field = is_named text (node_value field).name

-- the first field of that name
abbrev pub first_field_definition_named : List ℕ → List (Node FieldDefinition) → Option (Node FieldDefinition)
first_field_definition_named text = find (is_field_definition_named text)

abbrev pub is_enum_value_definition_named : List ℕ → Node EnumValueDefinition → Bool
is_enum_value_definition_named text definition = is_named text (node_value definition).value

-- the first enum value of that name
abbrev pub first_enum_value_definition_named : List ℕ → List (Node EnumValueDefinition) → Option (Node EnumValueDefinition)
first_enum_value_definition_named text = find (is_enum_value_definition_named text)
