-- The trees that selections, fragments, variable definitions and operations of the code stand for, and what clones keep.
use Rattle.std.specs.Prelude.{◌≡◌, List, [], ◌∷◌, map}
use Rattle.std.specs.Option.{option_map}
use Rattle.graphql_base.specs.declared.node.Node.{Node}
use Rattle.graphql_base.specs.Node.{node_value}
use Rattle.graphql_text.specs.trees.Leaves.{described_tree, name_tree}
use Rattle.graphql_values.specs.trees.DirectiveTrees.{argument_trees, directive_trees}
use Rattle.graphql_values.specs.trees.LocationTrees.{operation_type_tree}
use Rattle.graphql_values.specs.trees.TypeTrees.{type_tree}
use Rattle.graphql_values.specs.trees.ValueTrees.{value_tree}
use Rattle.graphql_executable.specs.kinds.Fields.{FieldTree, selection_of_field}
use Rattle.graphql_executable.specs.kinds.FragmentDefinitions.{fragment_definition_kind}
use Rattle.graphql_executable.specs.kinds.FragmentSpreads.{FragmentSpreadTree}
use Rattle.graphql_executable.specs.kinds.InlineFragments.{InlineFragmentTree, selection_of_inline_fragment}
use Rattle.graphql_executable.specs.kinds.OperationDefinitions.{operation_definition_kind}
use Rattle.graphql_executable.specs.kinds.Selections.{SelectionTree, SelectionTrees, spread_selection, no_selections, more_selections}
use Rattle.graphql_executable.specs.kinds.VariableDefinitions.{variable_definition_kind}
use Rattle.graphql_executable.specs.declared.field.Field.{Field, fold-Field}
use Rattle.graphql_executable.specs.declared.fragment_definition.FragmentDefinition.{FragmentDefinition}
use Rattle.graphql_executable.specs.declared.fragment_spread.FragmentSpread.{FragmentSpread}
use Rattle.graphql_executable.specs.declared.inline_fragment.InlineFragment.{InlineFragment, fold-InlineFragment}
use Rattle.graphql_executable.specs.declared.operation_definition.OperationDefinition.{OperationDefinition}
use Rattle.graphql_executable.specs.declared.selection.Selection.{Selection, fold-Selection}
use Rattle.graphql_executable.specs.declared.selection.Selection.TheOpen.{Selection-F, Field-F, InlineFragment-F}
use Rattle.graphql_executable.specs.declared.variable_definition.VariableDefinition.{VariableDefinition}

-- FRAGMENT SPREADS

-- The tree of a fragment spread: all of it but the locations.
abbrev pub fragment_spread_tree : FragmentSpread → FragmentSpreadTree
fragment_spread_tree spread = record { name = name_tree spread.fragment_name; directives = directive_trees spread.directives }

-- SELECTIONS

abbrev pub selections_of : List SelectionTree → SelectionTrees
selections_of [] = no_selections
selections_of (selection ∷ more) = more_selections selection (selections_of more)

-- one level of a selection, a field and an inline fragment, of which each part is a tree already
abbrev pub selection_tree_step : Selection-F SelectionTree FieldTree InlineFragmentTree → SelectionTree
selection_tree_step (Selection-F.Field node) = selection_of_field (node_value node)
selection_tree_step (Selection-F.FragmentSpread node) = spread_selection (fragment_spread_tree (node_value node))
selection_tree_step (Selection-F.InlineFragment node) = selection_of_inline_fragment (node_value node)

abbrev pub field_tree_step : Field-F SelectionTree FieldTree InlineFragmentTree → FieldTree
field_tree_step field = record {
  head = record {
    alias = option_map name_tree field.alias;
    name = name_tree field.name;
    arguments = argument_trees field.arguments.items;
    directives = directive_trees field.directives;
  };
  selections = selections_of field.selection_set.items;
}

abbrev pub inline_fragment_tree_step : InlineFragment-F SelectionTree FieldTree InlineFragmentTree → InlineFragmentTree
inline_fragment_tree_step fragment = record {
  head = record { type_condition = option_map name_tree fragment.type_condition; directives = directive_trees fragment.directives };
  selections = selections_of fragment.selection_set.items;
}

-- The tree of a selection, of a field and of an inline fragment: all of it but the locations.
abbrev pub selection_tree : Selection → SelectionTree
selection_tree = fold-Selection SelectionTree FieldTree InlineFragmentTree selection_tree_step field_tree_step inline_fragment_tree_step

abbrev pub field_tree : Field → FieldTree
field_tree = fold-Field SelectionTree FieldTree InlineFragmentTree selection_tree_step field_tree_step inline_fragment_tree_step

abbrev pub inline_fragment_tree : InlineFragment → InlineFragmentTree
inline_fragment_tree = fold-InlineFragment SelectionTree FieldTree InlineFragmentTree selection_tree_step field_tree_step inline_fragment_tree_step

abbrev pub selection_trees : List Selection → SelectionTrees
selection_trees selections = selections_of (map selection_tree selections)

-- A clone of a field or an inline fragment has the very names, nodes and selections, with their locations.
pub record IsFieldCloneOf (field copy : Field) : Type 0 where
  pub alias : copy.alias ≡ field.alias
  pub name : copy.name ≡ field.name
  pub arguments : copy.arguments.items ≡ field.arguments.items
  pub directives : copy.directives.0.items ≡ field.directives.0.items
  pub selections : copy.selection_set.items ≡ field.selection_set.items

pub record IsInlineFragmentCloneOf (fragment copy : InlineFragment) : Type 0 where
  pub type_condition : copy.type_condition ≡ fragment.type_condition
  pub directives : copy.directives.0.items ≡ fragment.directives.0.items
  pub selections : copy.selection_set.items ≡ fragment.selection_set.items

-- DEFINITIONS

-- The tree of a variable definition, an operation and a fragment definition: all of it but the locations.
abbrev pub variable_definition_tree : VariableDefinition → variable_definition_kind.Tree
variable_definition_tree variable = described_tree variable.description (record {
  name = name_tree variable.name;
  type = type_tree (node_value variable.ty);
  default_value = option_map (λ node. value_tree (node_value node)) variable.default_value;
  directives = directive_trees variable.directives;
})

abbrev pub variable_definition_trees : List (Node VariableDefinition) → List variable_definition_kind.Tree
variable_definition_trees = map (λ node. variable_definition_tree (node_value node))

abbrev pub operation_definition_tree : OperationDefinition → operation_definition_kind.Tree
operation_definition_tree operation = described_tree operation.description (record {
  operation_type = operation_type_tree operation.operation_type;
  name = option_map name_tree operation.name;
  variables = variable_definition_trees operation.variables.items;
  directives = directive_trees operation.directives;
  selections = selection_trees operation.selection_set.items;
})

abbrev pub fragment_definition_tree : FragmentDefinition → fragment_definition_kind.Tree
fragment_definition_tree fragment = described_tree fragment.description (record {
  name = name_tree fragment.name;
  type_condition = name_tree fragment.type_condition;
  directives = directive_trees fragment.directives;
  selections = selection_trees fragment.selection_set.items;
})
