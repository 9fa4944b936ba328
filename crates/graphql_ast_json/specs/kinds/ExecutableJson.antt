-- Which JSON is of which variable definition, selection, operation and fragment definition.
use Rattle.std.specs.Prelude.{◌≡◌, ℕ, List, [], ◌∷◌, MatchOption, Some, ⊤, codes}
use Rattle.serde_json.specs.Data.{Data, string, Items, no_items, item}
use Rattle.graphql_text.specs.lexical.Literals.{NameText}
use Rattle.graphql_values.specs.kinds.OperationTypes.{operation_type_name}
use Rattle.graphql_values.specs.kinds.Values.{variable}
use Rattle.graphql_executable.specs.kinds.Fields.{FieldTree, selection_of_field}
use Rattle.graphql_executable.specs.kinds.FragmentDefinitions.{FragmentDefinitionTree, fragment_definition_kind}
use Rattle.graphql_executable.specs.kinds.FragmentSpreads.{FragmentSpreadTree}
use Rattle.graphql_executable.specs.kinds.InlineFragments.{InlineFragmentTree, selection_of_inline_fragment}
use Rattle.graphql_executable.specs.kinds.OperationDefinitions.{OperationDefinitionTree, operation_definition_kind}
use Rattle.graphql_executable.specs.kinds.SelectionHeads.{FieldHeadTree, InlineFragmentHeadTree}
use Rattle.graphql_executable.specs.kinds.Selections.{SelectionTree, field_selection, spread_selection, inline_selection, SelectionTrees}
use Rattle.graphql_executable.specs.kinds.Selections.{no_selections, more_selections}
use Rattle.graphql_executable.specs.kinds.VariableDefinitions.{VariableDefinitionTree, variable_definition_kind}
use Rattle.graphql_ast_json.specs.kinds.DirectiveJson.{HasDirectives, IsArgument}
use Rattle.ast_json_nodes.specs.declared.read.Unknown.{Unknown}
use Rattle.ast_json_nodes.specs.nodes.Nodes.{Each, HasName, IsName, IsNode, IsOptional, ListMember, Member, OptionalListMember, member_of}
use Rattle.graphql_ast_json.specs.kinds.TypeJson.{IsNamedType, IsTypeReference}
use Rattle.graphql_ast_json.specs.kinds.TypeSystemJson.{IsDefinition}
use Rattle.graphql_ast_json.specs.kinds.ValueJson.{IsValue}

-- VARIABLES

-- a variable is the node that it is as a value
abbrev pub IsVariable : Unknown → NameText → Data → Type 0
IsVariable unknown name = IsValue unknown (variable name)

abbrev pub variable_definition_members : List (List ℕ)
variable_definition_members = codes "variable" ∷ codes "type" ∷ codes "defaultValue" ∷ codes "directives" ∷ []

abbrev pub HasVariableDefinition : Unknown → VariableDefinitionTree → Data → Type 0
HasVariableDefinition unknown definition json =
    Member (codes "variable") json (IsVariable unknown definition.name) × Member (codes "type") json (IsTypeReference unknown definition.type)
    × IsOptional (IsValue unknown) definition.default_value (member_of (codes "defaultValue") json) × HasDirectives unknown definition.directives json

abbrev pub IsVariableDefinition : Unknown → variable_definition_kind.Tree → Data → Type 0
IsVariableDefinition unknown = IsDefinition unknown (codes "VariableDefinition") variable_definition_members (HasVariableDefinition unknown)

-- SELECTIONS

-- a node whose selections are such
abbrev pub IsSetOf : Unknown → (Items → Type 0) → Data → Type 0
IsSetOf unknown Are json = IsNode unknown (codes "SelectionSet") (codes "selections" ∷ []) json × ListMember (codes "selections") json Are

-- the member `selectionSet` is such a node
abbrev pub HasSetOf : Unknown → (Items → Type 0) → Data → Type 0
HasSetOf unknown Are json = Member (codes "selectionSet") json (IsSetOf unknown Are)

-- it is such a node or is left out, which is the same as one without selections
abbrev pub HasOptionalSetOf : Unknown → (Items → Type 0) → Data → Type 0
HasOptionalSetOf unknown Are json = MatchOption (member_of (codes "selectionSet") json) (Are no_items) (IsSetOf unknown Are)

abbrev pub field_members : List (List ℕ)
field_members = codes "alias" ∷ codes "name" ∷ codes "arguments" ∷ codes "directives" ∷ codes "selectionSet" ∷ []

-- what stands before the set of a field
abbrev pub HasFieldHead : Unknown → FieldHeadTree → Data → Type 0
HasFieldHead unknown field json =
    IsOptional (IsName unknown) field.alias (member_of (codes "alias") json) × HasName unknown field.name json
    × OptionalListMember (codes "arguments") json (Each (IsArgument unknown) field.arguments) × HasDirectives unknown field.directives json

abbrev pub IsFragmentSpread : Unknown → FragmentSpreadTree → Data → Type 0
IsFragmentSpread unknown fragment json =
    IsNode unknown (codes "FragmentSpread") (codes "name" ∷ codes "directives" ∷ []) json × HasName unknown fragment.name json
    × HasDirectives unknown fragment.directives json

abbrev pub inline_fragment_members : List (List ℕ)
inline_fragment_members = codes "typeCondition" ∷ codes "directives" ∷ codes "selectionSet" ∷ []

-- what stands before the set of an inline fragment
abbrev pub HasInlineFragmentHead : Unknown → InlineFragmentHeadTree → Data → Type 0
HasInlineFragmentHead unknown fragment json =
    IsOptional (IsNamedType unknown) fragment.type_condition (member_of (codes "typeCondition") json) × HasDirectives unknown fragment.directives json

abbrev mutual
  pub IsSelection : Unknown → SelectionTree → Data → Type 0
  IsSelection unknown (field_selection head set) json =
      IsNode unknown (codes "Field") field_members json × HasFieldHead unknown head json × HasOptionalSetOf unknown (AreSelections unknown set) json
  IsSelection unknown (spread_selection fragment) json = IsFragmentSpread unknown fragment json
  IsSelection unknown (inline_selection head set) json =
      IsNode unknown (codes "InlineFragment") inline_fragment_members json × HasInlineFragmentHead unknown head json × HasSetOf unknown
      (AreSelections unknown set) json

  pub AreSelections : Unknown → SelectionTrees → Items → Type 0
  AreSelections unknown no_selections no_items = ⊤
  AreSelections unknown (more_selections selection more) (item json rest) = IsSelection unknown selection json × AreSelections unknown more rest
  AreSelections unknown _ _ = ⊥

abbrev pub IsSelectionSet : Unknown → SelectionTrees → Data → Type 0
IsSelectionSet unknown set = IsSetOf unknown (AreSelections unknown set)

-- a field and an inline fragment by themselves are what they are among selections
abbrev pub IsField : Unknown → FieldTree → Data → Type 0
IsField unknown field = IsSelection unknown (selection_of_field field)

abbrev pub IsInlineFragment : Unknown → InlineFragmentTree → Data → Type 0
IsInlineFragment unknown fragment = IsSelection unknown (selection_of_inline_fragment fragment)

-- DEFINITIONS

abbrev pub operation_definition_members : List (List ℕ)
operation_definition_members =
    codes "operation" ∷ codes "name" ∷ codes "variableDefinitions" ∷ codes "directives" ∷ codes "selectionSet" ∷ []

-- the operation type is told by its word in the grammar
abbrev pub HasOperationDefinition : Unknown → OperationDefinitionTree → Data → Type 0
HasOperationDefinition unknown operation json =
    (member_of (codes "operation") json ≡ Some (string (operation_type_name operation.operation_type)))
    × IsOptional (IsName unknown) operation.name (member_of (codes "name") json)
    × OptionalListMember (codes "variableDefinitions") json (Each (IsVariableDefinition unknown) operation.variables)
    × HasDirectives unknown operation.directives json
    × Member (codes "selectionSet") json (IsSelectionSet unknown operation.selections)

abbrev pub IsOperationDefinition : Unknown → operation_definition_kind.Tree → Data → Type 0
IsOperationDefinition unknown = IsDefinition unknown (codes "OperationDefinition") operation_definition_members (HasOperationDefinition unknown)

abbrev pub fragment_definition_members : List (List ℕ)
fragment_definition_members = codes "name" ∷ codes "typeCondition" ∷ codes "directives" ∷ codes "selectionSet" ∷ []

abbrev pub HasFragmentDefinition : Unknown → FragmentDefinitionTree → Data → Type 0
HasFragmentDefinition unknown fragment json =
    HasName unknown fragment.name json × Member (codes "typeCondition") json (IsNamedType unknown fragment.type_condition)
    × HasDirectives unknown fragment.directives json
    × Member (codes "selectionSet") json (IsSelectionSet unknown fragment.selections)

abbrev pub IsFragmentDefinition : Unknown → fragment_definition_kind.Tree → Data → Type 0
IsFragmentDefinition unknown = IsDefinition unknown (codes "FragmentDefinition") fragment_definition_members (HasFragmentDefinition unknown)
