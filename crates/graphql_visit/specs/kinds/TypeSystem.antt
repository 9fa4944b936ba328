-- What is within the definitions and extensions of the type system.
use Rattle.graphql_values.specs.kinds.DirectiveDefinitions.{directive_definition_kind}
use Rattle.graphql_type_system.specs.kinds.BracedTypes.{BracedTypeTree}
use Rattle.graphql_type_system.specs.kinds.EnumValueDefinitions.{enum_value_definition_kind}
use Rattle.graphql_type_system.specs.kinds.FieldDefinitions.{field_definition_kind}
use Rattle.graphql_type_system.specs.kinds.ImplementingTypes.{ImplementingTypeTree}
use Rattle.graphql_type_system.specs.kinds.ScalarTypes.{ScalarTypeTree}
use Rattle.graphql_type_system.specs.kinds.Schemas.{RootOperationTree, SchemaTree}
use Rattle.graphql_type_system.specs.kinds.UnionTypes.{UnionTypeTree}
use Rattle.graphql_visit.specs.NodeTrees.{RootOperation, FieldDefinition, EnumValueDefinition}
use Rattle.graphql_visit.specs.Visits.{Visits, no_visits, Visited, one, each, ◌⨟◌}
use Rattle.graphql_visit.specs.kinds.Values.{directive_visited, input_value_definition_visited, type_visited}

-- MEMBERS

abbrev pub field_definition_visited : Visited field_definition_kind.Tree
field_definition_visited = record {
  node = FieldDefinition;
  within = λ field.
      each input_value_definition_visited field.body.arguments ⨟ one type_visited field.body.type
      ⨟ each directive_visited field.body.directives;
}

abbrev pub enum_value_definition_visited : Visited enum_value_definition_kind.Tree
enum_value_definition_visited = record { node = EnumValueDefinition; within = λ value. each directive_visited value.body.directives }

abbrev pub root_operation_visited : Visited RootOperationTree
root_operation_visited = record { node = RootOperation; within = λ root. no_visits }

-- WHAT A DEFINITION AND AN EXTENSION SHARE

abbrev pub within_schema : SchemaTree → Visits
within_schema schema = each directive_visited schema.directives ⨟ each root_operation_visited schema.root_operations

abbrev pub within_scalar_type : ScalarTypeTree → Visits
within_scalar_type type = each directive_visited type.directives

abbrev pub within_implementing_type : ImplementingTypeTree → Visits
within_implementing_type type = each directive_visited type.directives ⨟ each field_definition_visited type.fields

abbrev pub within_union_type : UnionTypeTree → Visits
within_union_type type = each directive_visited type.directives

abbrev pub within_braced_type : {Member : Type 0} → Visited Member → BracedTypeTree Member → Visits
within_braced_type member type = each directive_visited type.directives ⨟ each member type.members

-- DEFINITIONS OF DIRECTIVES

abbrev pub within_directive_definition : directive_definition_kind.Tree → Visits
within_directive_definition definition = each input_value_definition_visited definition.body.arguments
