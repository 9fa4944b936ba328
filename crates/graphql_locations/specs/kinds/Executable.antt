-- The source locations in selections, variable definitions, operations and fragments.
use Rattle.std.specs.Prelude.{List, ◌++◌}
use Rattle.graphql_base.specs.declared.span.SourceSpan.{SourceSpan}
use Rattle.graphql_executable.specs.declared.field.Field.{Field, fold-Field}
use Rattle.graphql_executable.specs.declared.fragment_definition.FragmentDefinition.{FragmentDefinition}
use Rattle.graphql_executable.specs.declared.fragment_spread.FragmentSpread.{FragmentSpread}
use Rattle.graphql_executable.specs.declared.inline_fragment.InlineFragment.{InlineFragment, fold-InlineFragment}
use Rattle.graphql_executable.specs.declared.operation_definition.OperationDefinition.{OperationDefinition}
use Rattle.graphql_executable.specs.declared.selection.Selection.{Selection, fold-Selection}
use Rattle.graphql_executable.specs.declared.selection.Selection.TheOpen.{Selection-F, Field-F, InlineFragment-F}
use Rattle.graphql_executable.specs.declared.variable_definition.VariableDefinition.{VariableDefinition}
use Rattle.graphql_locations.specs.Leaves.{name_locations, text_locations, optional_locations, list_locations, node_locations}
use Rattle.graphql_locations.specs.kinds.Values.{told, type_locations, value_locations, argument_locations, directive_list_locations}

-- SELECTIONS

abbrev pub fragment_spread_locations : FragmentSpread → List SourceSpan
fragment_spread_locations spread = name_locations spread.fragment_name ++ directive_list_locations spread.directives

-- one level of a selection, a field and an inline fragment, of whose parts they are told already
abbrev pub selection_locations_step : Selection-F (List SourceSpan) (List SourceSpan) (List SourceSpan) → List SourceSpan
selection_locations_step (Selection-F.Field node) = node_locations told node
selection_locations_step (Selection-F.FragmentSpread node) = node_locations fragment_spread_locations node
selection_locations_step (Selection-F.InlineFragment node) = node_locations told node

abbrev pub field_locations_step : Field-F (List SourceSpan) (List SourceSpan) (List SourceSpan) → List SourceSpan
field_locations_step field =
    optional_locations name_locations field.alias
    ++ name_locations field.name
    ++ list_locations (node_locations argument_locations) field.arguments.items
    ++ directive_list_locations field.directives
    ++ list_locations told field.selection_set.items

abbrev pub inline_fragment_locations_step : InlineFragment-F (List SourceSpan) (List SourceSpan) (List SourceSpan) → List SourceSpan
inline_fragment_locations_step fragment =
    optional_locations name_locations fragment.type_condition
    ++ directive_list_locations fragment.directives
    ++ list_locations told fragment.selection_set.items

abbrev pub selection_locations : Selection → List SourceSpan
selection_locations =
    fold-Selection (List SourceSpan) (List SourceSpan) (List SourceSpan) selection_locations_step field_locations_step inline_fragment_locations_step

abbrev pub field_locations : Field → List SourceSpan
field_locations =
    fold-Field (List SourceSpan) (List SourceSpan) (List SourceSpan) selection_locations_step field_locations_step inline_fragment_locations_step

abbrev pub inline_fragment_locations : InlineFragment → List SourceSpan
inline_fragment_locations =
    fold-InlineFragment (List SourceSpan) (List SourceSpan) (List SourceSpan) selection_locations_step field_locations_step inline_fragment_locations_step

-- DEFINITIONS

abbrev pub variable_definition_locations : VariableDefinition → List SourceSpan
variable_definition_locations variable =
    optional_locations text_locations variable.description
    ++ name_locations variable.name
    ++ node_locations type_locations variable.ty
    ++ optional_locations (node_locations value_locations) variable.default_value
    ++ directive_list_locations variable.directives

abbrev pub operation_definition_locations : OperationDefinition → List SourceSpan
operation_definition_locations operation =
    optional_locations text_locations operation.description
    ++ optional_locations name_locations operation.name
    ++ list_locations (node_locations variable_definition_locations) operation.variables.items
    ++ directive_list_locations operation.directives
    ++ list_locations selection_locations operation.selection_set.items

abbrev pub fragment_definition_locations : FragmentDefinition → List SourceSpan
fragment_definition_locations fragment =
    optional_locations text_locations fragment.description
    ++ name_locations fragment.name
    ++ name_locations fragment.type_condition
    ++ directive_list_locations fragment.directives
    ++ list_locations selection_locations fragment.selection_set.items
