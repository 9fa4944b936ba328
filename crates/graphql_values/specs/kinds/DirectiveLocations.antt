-- Directive locations: DirectiveLocation, section 3.13. They are parts of GraphQL's grammar, and no source locations.
use Rattle.std.specs.Prelude.{ℕ, List, codes}
use Rattle.graphql_text.specs.grammar.Forms.{Form, keyword}
use Rattle.graphql_values.specs.kinds.OperationTypes.{OperationTypeTree}
use Rattle.graphql_values.specs.kinds.OperationTypes as operation_type
use Rattle.graphql_values.specs.declared.directive_location.DirectiveLocation.{DirectiveLocation}
use Rattle.graphql_values.specs.declared.directive_location.DirectiveLocation.TheVariants.{Query, Mutation, Subscription, Field}
use Rattle.graphql_values.specs.declared.directive_location.DirectiveLocation.TheVariants.{FragmentDefinition, FragmentSpread}
use Rattle.graphql_values.specs.declared.directive_location.DirectiveLocation.TheVariants.{InlineFragment, VariableDefinition, Schema}
use Rattle.graphql_values.specs.declared.directive_location.DirectiveLocation.TheVariants.{Scalar, Object, FieldDefinition}
use Rattle.graphql_values.specs.declared.directive_location.DirectiveLocation.TheVariants.{ArgumentDefinition, Interface, Union, Enum}
use Rattle.graphql_values.specs.declared.directive_location.DirectiveLocation.TheVariants.{EnumValue, InputObject, InputFieldDefinition}

-- A directive location is its own tree.
abbrev pub DirectiveLocationTree : Type 0
DirectiveLocationTree = DirectiveLocation

-- The name of a directive location, which is its word in the grammar.
abbrev pub location_name : DirectiveLocationTree → List ℕ
location_name Query = codes "QUERY"
location_name Mutation = codes "MUTATION"
location_name Subscription = codes "SUBSCRIPTION"
location_name Field = codes "FIELD"
location_name FragmentDefinition = codes "FRAGMENT_DEFINITION"
location_name FragmentSpread = codes "FRAGMENT_SPREAD"
location_name InlineFragment = codes "INLINE_FRAGMENT"
location_name VariableDefinition = codes "VARIABLE_DEFINITION"
location_name Schema = codes "SCHEMA"
location_name Scalar = codes "SCALAR"
location_name Object = codes "OBJECT"
location_name FieldDefinition = codes "FIELD_DEFINITION"
location_name ArgumentDefinition = codes "ARGUMENT_DEFINITION"
location_name Interface = codes "INTERFACE"
location_name Union = codes "UNION"
location_name Enum = codes "ENUM"
location_name EnumValue = codes "ENUM_VALUE"
location_name InputObject = codes "INPUT_OBJECT"
location_name InputFieldDefinition = codes "INPUT_FIELD_DEFINITION"

-- The grammar of DirectiveLocation, section 3.13.
abbrev pub location_form : DirectiveLocationTree → Form
location_form location = keyword (location_name location)

-- the location that operations of a type are
abbrev pub operation_location : OperationTypeTree → DirectiveLocationTree
operation_location operation_type.Query = Query
operation_location operation_type.Mutation = Mutation
operation_location operation_type.Subscription = Subscription
