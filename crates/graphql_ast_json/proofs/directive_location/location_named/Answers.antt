use Rattle.std.proofs.Common.{◌≡◌}
use Rattle.graphql_values.specs.kinds.DirectiveLocations.{DirectiveLocationTree, location_name}
use Rattle.graphql_values.specs.declared.directive_location.DirectiveLocation.TheVariants as tree
use Rattle.graphql_ast_json.proofs.directive_location.location_named.Goals as goal

pub returns-in_default-clause-none : goal.returns-in_default-clause-none
returns-in_default-clause-none c none location =
    elim location as (λ (t : DirectiveLocationTree). c.args.text.now ≡ location_name t → ⊥) [
      | tree.Query ↦ c.in_default.not-QUERY
      | tree.Mutation ↦ c.in_default.not-MUTATION
      | tree.Subscription ↦ c.in_default.not-SUBSCRIPTION
      | tree.Field ↦ c.in_default.not-FIELD
      | tree.FragmentDefinition ↦ c.in_default.not-FRAGMENT_DEFINITION
      | tree.FragmentSpread ↦ c.in_default.not-FRAGMENT_SPREAD
      | tree.InlineFragment ↦ c.in_default.not-INLINE_FRAGMENT
      | tree.VariableDefinition ↦ c.in_default.not-VARIABLE_DEFINITION
      | tree.Schema ↦ c.in_default.not-SCHEMA
      | tree.Scalar ↦ c.in_default.not-SCALAR
      | tree.Object ↦ c.in_default.not-OBJECT
      | tree.FieldDefinition ↦ c.in_default.not-FIELD_DEFINITION
      | tree.ArgumentDefinition ↦ c.in_default.not-ARGUMENT_DEFINITION
      | tree.Interface ↦ c.in_default.not-INTERFACE
      | tree.Union ↦ c.in_default.not-UNION
      | tree.Enum ↦ c.in_default.not-ENUM
      | tree.EnumValue ↦ c.in_default.not-ENUM_VALUE
      | tree.InputObject ↦ c.in_default.not-INPUT_OBJECT
      | tree.InputFieldDefinition ↦ c.in_default.not-INPUT_FIELD_DEFINITION
    ]
