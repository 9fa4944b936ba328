-- The source locations in types, values, arguments, directives and definitions of input values.
use Rattle.std.specs.Prelude.{List, [], ◌++◌}
use Rattle.graphql_base.specs.declared.span.SourceSpan.{SourceSpan}
use Rattle.graphql_values.specs.declared.argument.Argument.{Argument}
use Rattle.graphql_values.specs.declared.directive.Directive.{Directive}
use Rattle.graphql_values.specs.declared.directive_list.DirectiveList.{DirectiveList}
use Rattle.graphql_values.specs.declared.input_value_definition.InputValueDefinition.{InputValueDefinition}
use Rattle.graphql_values.specs.declared.types.Type.{«Type», Type-F, fold-Type}
use Rattle.graphql_values.specs.declared.value.Value.{Value, Value-F, fold-Value}
use Rattle.graphql_locations.specs.Leaves.{name_locations, text_locations, optional_locations, list_locations, node_locations, named_node_locations}

-- those within, where they are told already
abbrev pub told : List SourceSpan → List SourceSpan
told locations = locations

-- TYPES

-- one level of a type, of whose item they are told already
abbrev pub type_locations_step : Type-F (List SourceSpan) → List SourceSpan
type_locations_step (Type-F.Named name) = name_locations name
type_locations_step (Type-F.NonNullNamed name) = name_locations name
type_locations_step (Type-F.List item) = item.value
type_locations_step (Type-F.NonNullList item) = item.value

abbrev pub type_locations : «Type» → List SourceSpan
type_locations = fold-Type (List SourceSpan) type_locations_step

-- VALUES

-- one level of a value, of whose parts they are told already; a string and a number have no location but that of their node
abbrev pub value_locations_step : Value-F (List SourceSpan) → List SourceSpan
value_locations_step Value-F.Null = []
value_locations_step (Value-F.Enum name) = name_locations name
value_locations_step (Value-F.Variable name) = name_locations name
value_locations_step (Value-F.String string) = []
value_locations_step (Value-F.Float float) = []
value_locations_step (Value-F.Int int) = []
value_locations_step (Value-F.Boolean boolean) = []
value_locations_step (Value-F.List items) = list_locations (node_locations told) items.items
value_locations_step (Value-F.Object fields) = list_locations (named_node_locations told) fields.items

abbrev pub value_locations : Value → List SourceSpan
value_locations = fold-Value (List SourceSpan) value_locations_step

-- ARGUMENTS AND DIRECTIVES

abbrev pub argument_locations : Argument → List SourceSpan
argument_locations argument = name_locations argument.name ++ node_locations value_locations argument.value

abbrev pub directive_locations : Directive → List SourceSpan
directive_locations directive = name_locations directive.name ++ list_locations (node_locations argument_locations) directive.arguments.items

abbrev pub directive_list_locations : DirectiveList → List SourceSpan
directive_list_locations list = list_locations (node_locations directive_locations) list.0.items

-- DEFINITIONS OF INPUT VALUES

abbrev pub input_value_definition_locations : InputValueDefinition → List SourceSpan
input_value_definition_locations input =
    optional_locations text_locations input.description
    ++ name_locations input.name
    ++ node_locations type_locations input.ty
    ++ optional_locations (node_locations value_locations) input.default_value
    ++ directive_list_locations input.directives
