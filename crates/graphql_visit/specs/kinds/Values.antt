-- What is within values, arguments, directives, types and definitions of input values.
use Rattle.graphql_text.specs.lexical.Literals.{NameText}
use Rattle.graphql_values.specs.kinds.Arguments.{ArgumentTree}
use Rattle.graphql_values.specs.kinds.Directives.{DirectiveTree}
use Rattle.graphql_values.specs.kinds.InputValueDefinitions.{input_value_definition_kind}
use Rattle.graphql_values.specs.kinds.TypeReferences.{TypeTree, named_type, non_null_named_type, list_type, non_null_list_type}
use Rattle.graphql_values.specs.kinds.Values.{ValueTree, list_value, object_value, ValueTrees, no_values, more_values}
use Rattle.graphql_values.specs.kinds.Values.{ObjectFieldTrees, no_fields, more_fields}
use Rattle.graphql_visit.specs.NodeTrees.{Value, ObjectField, Argument, Directive, TypeReference, InputValueDefinition}
use Rattle.graphql_visit.specs.Visits.{Visits, no_visits, visit, Visited, one, optional, each, ◌⨟◌}

-- VALUES

-- Within a list are its items, and within an object its fields, of which each has its value.
abbrev mutual
  pub within_value : ValueTree → Visits
  within_value (list_value items) = values_visits items
  within_value (object_value fields) = object_fields_visits fields
  within_value value = no_visits

  pub values_visits : ValueTrees → Visits
  values_visits no_values = no_visits
  values_visits (more_values value more) = visit (Value value) (within_value value) (values_visits more)

  pub object_fields_visits : ObjectFieldTrees → Visits
  object_fields_visits no_fields = no_visits
  object_fields_visits (more_fields name value more) =
      visit (ObjectField name value) (visit (Value value) (within_value value) no_visits) (object_fields_visits more)

abbrev pub value_visited : Visited ValueTree
value_visited = record { node = Value; within = within_value }

abbrev pub object_field_visited : Visited (NameText × ValueTree)
object_field_visited = record { node = λ field. ObjectField field.0 field.1; within = λ field. one value_visited field.1 }

-- ARGUMENTS AND DIRECTIVES

abbrev pub argument_visited : Visited ArgumentTree
argument_visited = record { node = Argument; within = λ argument. one value_visited argument.value }

abbrev pub directive_visited : Visited DirectiveTree
directive_visited = record { node = Directive; within = λ directive. each argument_visited directive.arguments }

-- TYPES

-- Within a list type is the type of its items.
abbrev pub within_type : TypeTree → Visits
within_type (named_type name) = no_visits
within_type (non_null_named_type name) = no_visits
within_type (list_type item) = visit (TypeReference item) (within_type item) no_visits
within_type (non_null_list_type item) = visit (TypeReference item) (within_type item) no_visits

abbrev pub type_visited : Visited TypeTree
type_visited = record { node = TypeReference; within = within_type }

-- DEFINITIONS OF INPUT VALUES

abbrev pub input_value_definition_visited : Visited input_value_definition_kind.Tree
input_value_definition_visited = record {
  node = InputValueDefinition;
  within = λ input.
      one type_visited input.body.type ⨟ optional value_visited input.body.default_value ⨟ each directive_visited input.body.directives;
}
