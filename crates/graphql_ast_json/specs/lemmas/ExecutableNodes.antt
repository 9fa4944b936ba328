-- Lemmas, no definitions of the product: the JSON of variable definitions, selections, operations and fragment definitions is of one of them,
-- and is a node.
use Rattle.std.proofs.Common.{◌≡◌, ℕ, List, [], ◌∷◌, Option, Some, None, MatchOption, option_and_then, codes, nat_eq, refl, ap, false}
use Rattle.std.specs.Cmp.Lexicographic.{pointwise}
use Rattle.graphql_text.specs.lexical.Literals.{NameText}
use Rattle.graphql_values.specs.kinds.OperationTypes.{operation_type_name}
use Rattle.graphql_values.specs.kinds.Values.{ValueTree, variable}
use Rattle.graphql_executable.specs.kinds.Fields.{FieldTree, selection_of_field}
use Rattle.graphql_executable.specs.kinds.InlineFragments.{InlineFragmentTree, selection_of_inline_fragment}
use Rattle.graphql_executable.specs.kinds.Selections.{SelectionTree, field_selection, spread_selection, inline_selection, SelectionTrees}
use Rattle.graphql_executable.specs.kinds.Selections.{no_selections, more_selections}
use Rattle.serde_json.specs.Data.{Data, Items, no_items, item}
use Rattle.serde_json.specs.Find.{as_array}
use Rattle.graphql_ast_json.specs.kinds.DirectiveJson.{IsArgument}
use Rattle.graphql_ast_json.specs.kinds.ExecutableJson.{IsVariable, HasVariableDefinition, IsVariableDefinition}
use Rattle.graphql_ast_json.specs.kinds.ExecutableJson.{variable_definition_members, IsSetOf, HasSetOf, field_members, HasFieldHead}
use Rattle.graphql_ast_json.specs.kinds.ExecutableJson.{IsFragmentSpread, inline_fragment_members, HasInlineFragmentHead, IsSelection}
use Rattle.graphql_ast_json.specs.kinds.ExecutableJson.{AreSelections, IsSelectionSet, IsField, IsInlineFragment, HasOperationDefinition}
use Rattle.graphql_ast_json.specs.kinds.ExecutableJson.{HasFragmentDefinition, IsOperationDefinition, IsFragmentDefinition}
use Rattle.graphql_ast_json.specs.kinds.ExecutableJson.{operation_definition_members, fragment_definition_members}
use Rattle.ast_json_nodes.specs.nodes.Nodes.{IsName, member_of}
use Rattle.ast_json_nodes.specs.nodes.OneTree.{IsNodeOf, IsOfOneTree, NodeLaws}
use Rattle.graphql_ast_json.specs.kinds.TypeJson.{IsNamedType, IsTypeReference}
use Rattle.graphql_ast_json.specs.kinds.ValueJson.{IsValue}
use Rattle.graphql_ast_json.specs.lemmas.DirectiveNodes.{same_argument}
use Rattle.graphql_ast_json.specs.lemmas.Leaves.{both_some, different, same_name, same_optional, same_string}
use Rattle.graphql_ast_json.specs.lemmas.TypeNodes.{same_named_type, same_type}
use Rattle.graphql_ast_json.specs.lemmas.TypeSystemNodes.{definition_laws, has_directives, has_list, has_name, same_definition, same_operation_type}
use Rattle.graphql_ast_json.specs.lemmas.ValueNodes.{same_value}
use Rattle.ast_json_nodes.specs.declared.read.Unknown.{Unknown}

-- VARIABLES

abbrev variable_name : ValueTree → NameText → NameText
variable_name (variable name) other = name
variable_name tree other = other

pub same_variable : (unknown : Unknown) → IsOfOneTree (IsVariable unknown)
same_variable unknown n m json p q = ap (λ tree. variable_name tree n) (same_value unknown (variable n) (variable m) json p q)

pub same_variable_definition : (unknown : Unknown) → IsOfOneTree (HasVariableDefinition unknown)
same_variable_definition unknown a b json p q =
    let name = both_some (member_of (codes "variable") json) (IsVariable unknown a.name) (IsVariable unknown b.name) p.0 q.0
    (same_variable unknown a.name b.name) in
    let type = both_some (member_of (codes "type") json) (IsTypeReference unknown a.type) (IsTypeReference unknown b.type) p.1 q.1
    (same_type unknown a.type b.type) in
    let value = same_optional (IsValue unknown) (same_value unknown) a.default_value b.default_value (member_of (codes "defaultValue") json) p.2 q.2 in
    let directives = has_directives unknown a.directives b.directives json p.3 q.3 in
    λ i. record { name = name i; type = type i; default_value = value i; directives = directives i }

-- SELECTIONS

pub same_fragment_spread : (unknown : Unknown) → IsOfOneTree (IsFragmentSpread unknown)
same_fragment_spread unknown a b json p q =
    let name = has_name unknown a.name b.name json p.1 q.1 in
    let directives = has_directives unknown a.directives b.directives json p.2 q.2 in
    λ i. record { name = name i; directives = directives i }

same_field_head : (unknown : Unknown) → IsOfOneTree (HasFieldHead unknown)
same_field_head unknown a b json p q =
    let alias = same_optional (IsName unknown) (same_name unknown) a.alias b.alias (member_of (codes "alias") json) p.0 q.0 in
    let name = has_name unknown a.name b.name json p.1 q.1 in
    let arguments = has_list (codes "arguments") (IsArgument unknown) (same_argument unknown) a.arguments b.arguments json p.2 q.2 in
    let directives = has_directives unknown a.directives b.directives json p.3 q.3 in
    λ i. record { alias = alias i; name = name i; arguments = arguments i; directives = directives i }

same_inline_fragment_head : (unknown : Unknown) → IsOfOneTree (HasInlineFragmentHead unknown)
same_inline_fragment_head unknown a b json p q =
    let type_condition = same_optional (IsNamedType unknown) (same_named_type unknown) a.type_condition b.type_condition (member_of
    (codes "typeCondition") json) p.0 q.0 in
    let directives = has_directives unknown a.directives b.directives json p.1 q.1 in
    λ i. record { type_condition = type_condition i; directives = directives i }

abbrev pub kind_of_selection : SelectionTree → List ℕ
kind_of_selection (field_selection _ _) = codes "Field"
kind_of_selection (spread_selection _) = codes "FragmentSpread"
kind_of_selection (inline_selection _ _) = codes "InlineFragment"

pub selection_node : (unknown : Unknown) (selection : SelectionTree) (json : Data) → IsSelection unknown selection json →
    IsNodeOf unknown (kind_of_selection selection) json
selection_node unknown (field_selection _ _) json is = record { names = field_members; is = is.0 }
selection_node unknown (spread_selection _) json is = record { names = codes "name" ∷ codes "directives" ∷ []; is = is.0 }
selection_node unknown (inline_selection _ _) json is = record { names = inline_fragment_members; is = is.0 }

other_selection : (unknown : Unknown) (a b : SelectionTree) (json : Data) → IsSelection unknown a json → IsSelection unknown b json →
    pointwise nat_eq (kind_of_selection a) (kind_of_selection b) ≡ false → a ≡ b
other_selection unknown a b json p q apart =
    absurd (different (kind_of_selection a) (kind_of_selection b) json (selection_node unknown a json p).is.0 (selection_node unknown b json q).is.0 apart)

both_sets : (unknown : Unknown) {R : Type 0} (json : Data) (Are Those : Items → Type 0) → IsSetOf unknown Are json → IsSetOf unknown Those json →
    ((items : Items) → Are items → Those items → R) → R
both_sets unknown json Are Those p q then = both_some (option_and_then as_array (member_of (codes "selections") json)) Are Those p.1 q.1 then

both_optional_sets : (unknown : Unknown) {R : Type 0} (found : Option Data) (Are Those : Items → Type 0) →
    MatchOption found (Are no_items) (IsSetOf unknown Are) →
    MatchOption found (Those no_items) (IsSetOf unknown Those) →
    ((items : Items) → Are items → Those items → R) → R
both_optional_sets unknown None Are Those p q then = then no_items p q
both_optional_sets unknown (Some json) Are Those p q then = both_sets unknown json Are Those p q then

mutual
  pub same_selection : (unknown : Unknown) (a b : SelectionTree) (json : Data) → IsSelection unknown a json → IsSelection unknown b json → a ≡ b
  same_selection unknown (field_selection a xs) (field_selection b ys) json p q =
      let head = same_field_head unknown a b json p.1 q.1 in
      let set = both_optional_sets unknown (member_of (codes "selectionSet") json) (AreSelections unknown xs) (AreSelections unknown ys) p.2 q.2
      (same_selections unknown xs ys) in
      λ i. field_selection (head i) (set i)
  same_selection unknown (spread_selection a) (spread_selection b) json p q = ap spread_selection (same_fragment_spread unknown a b json p q)
  same_selection unknown (inline_selection a xs) (inline_selection b ys) json p q =
      let head = same_inline_fragment_head unknown a b json p.1 q.1 in
      let set = both_some (member_of (codes "selectionSet") json) (IsSetOf unknown (AreSelections unknown xs)) (IsSetOf unknown
      (AreSelections unknown ys)) p.2 q.2
      (λ inner p' q'. (both_sets unknown) inner (AreSelections unknown xs) (AreSelections unknown ys) p' q' (same_selections unknown xs ys)) in
      λ i. inline_selection (head i) (set i)
  same_selection unknown (field_selection a xs) b json p q = other_selection unknown (field_selection a xs) b json p q refl
  same_selection unknown (spread_selection a) b json p q = other_selection unknown (spread_selection a) b json p q refl
  same_selection unknown (inline_selection a xs) b json p q = other_selection unknown (inline_selection a xs) b json p q refl

  pub same_selections : (unknown : Unknown) (xs ys : SelectionTrees) (jsons : Items) → AreSelections unknown xs jsons → AreSelections unknown ys jsons → xs ≡ ys
  same_selections unknown no_selections no_selections no_items p q = refl
  same_selections unknown (more_selections x xs) (more_selections y ys) (item json rest) p q =
      let first = same_selection unknown x y json p.0 q.0 in
      let others = same_selections unknown xs ys rest p.1 q.1 in
      λ i. more_selections (first i) (others i)
  same_selections unknown no_selections ys (item json rest) p q = absurd p
  same_selections unknown no_selections (more_selections y ys) no_items p q = absurd q
  same_selections unknown (more_selections x xs) ys no_items p q = absurd p
  same_selections unknown (more_selections x xs) no_selections (item json rest) p q = absurd q

same_selection_set : (unknown : Unknown) → IsOfOneTree (IsSelectionSet unknown)
same_selection_set unknown a b json p q = both_sets unknown json (AreSelections unknown a) (AreSelections unknown b) p q (same_selections unknown a b)

-- A field and an inline fragment by themselves.

abbrev field_of : SelectionTree → FieldTree → FieldTree
field_of (field_selection head set) other = record { head = head; selections = set }
field_of tree other = other

pub same_field : (unknown : Unknown) → IsOfOneTree (IsField unknown)
same_field unknown a b json p q = ap (λ tree. field_of tree a) (same_selection unknown (selection_of_field a) (selection_of_field b) json p q)

abbrev inline_fragment_of : SelectionTree → InlineFragmentTree → InlineFragmentTree
inline_fragment_of (inline_selection head set) other = record { head = head; selections = set }
inline_fragment_of tree other = other

pub same_inline_fragment : (unknown : Unknown) → IsOfOneTree (IsInlineFragment unknown)
same_inline_fragment unknown a b json p q =
    ap (λ tree. inline_fragment_of tree a) (same_selection unknown (selection_of_inline_fragment a) (selection_of_inline_fragment b) json p q)

-- DEFINITIONS

same_set : (unknown : Unknown) (a b : SelectionTrees) (json : Data) → HasSetOf unknown (AreSelections unknown a) json →
    HasSetOf unknown (AreSelections unknown b) json → a ≡ b
same_set unknown a b json p q = both_some (member_of (codes "selectionSet") json) (IsSelectionSet unknown a) (IsSelectionSet unknown b) p q
    (same_selection_set unknown a b)

pub same_operation_definition : (unknown : Unknown) → IsOfOneTree (HasOperationDefinition unknown)
same_operation_definition unknown a b json p q =
    let word = same_string (codes "operation") json (operation_type_name a.operation_type) (operation_type_name b.operation_type) p.0 q.0 in
    let operation_type = same_operation_type a.operation_type b.operation_type word in
    let name = same_optional (IsName unknown) (same_name unknown) a.name b.name (member_of (codes "name") json) p.1 q.1 in
    let variables = has_list (codes "variableDefinitions") (IsVariableDefinition unknown)
    (same_definition unknown (codes "VariableDefinition") variable_definition_members (HasVariableDefinition unknown)
    (same_variable_definition unknown)) a.variables
    b.variables json p.2 q.2 in
    let directives = has_directives unknown a.directives b.directives json p.3 q.3 in
    let selections = same_set unknown a.selections b.selections json p.4 q.4 in
    λ i. record { operation_type = operation_type i; name = name i; variables = variables i; directives = directives i; selections = selections i }

pub same_fragment_definition : (unknown : Unknown) → IsOfOneTree (HasFragmentDefinition unknown)
same_fragment_definition unknown a b json p q =
    let name = has_name unknown a.name b.name json p.0 q.0 in
    let type_condition = both_some (member_of (codes "typeCondition") json) (IsNamedType unknown a.type_condition)
    (IsNamedType unknown b.type_condition) p.1 q.1
    (same_named_type unknown a.type_condition b.type_condition) in
    let directives = has_directives unknown a.directives b.directives json p.2 q.2 in
    let selections = same_set unknown a.selections b.selections json p.3 q.3 in
    λ i. record { name = name i; type_condition = type_condition i; directives = directives i; selections = selections i }

-- LAWS

pub variable_laws : NodeLaws IsVariable
variable_laws = record {
  one_tree = same_variable;
  node = λ unknown tree json is. record { kind = codes "Variable"; node = record { names = codes "name" ∷ []; is = is.0 } };
}

pub fragment_spread_laws : NodeLaws IsFragmentSpread
fragment_spread_laws = record {
  one_tree = same_fragment_spread;
  node = λ unknown tree json is. record { kind = codes "FragmentSpread"; node = record { names = codes "name" ∷ codes "directives" ∷ []; is = is.0 } };
}

pub selection_set_laws : NodeLaws IsSelectionSet
selection_set_laws = record {
  one_tree = same_selection_set;
  node = λ unknown tree json is. record { kind = codes "SelectionSet"; node = record { names = codes "selections" ∷ []; is = is.0 } };
}

pub selection_laws : NodeLaws IsSelection
selection_laws = record {
  one_tree = same_selection;
  node = λ unknown selection json is. record { kind = kind_of_selection selection; node = selection_node unknown selection json is };
}

pub field_laws : NodeLaws IsField
field_laws = record { one_tree = same_field; node = λ unknown field. selection_laws.node unknown (selection_of_field field) }

pub inline_fragment_laws : NodeLaws IsInlineFragment
inline_fragment_laws = record {
  one_tree = same_inline_fragment;
  node = λ unknown fragment. selection_laws.node unknown (selection_of_inline_fragment fragment);
}

pub variable_definition_laws : NodeLaws IsVariableDefinition
variable_definition_laws = definition_laws (codes "VariableDefinition") variable_definition_members HasVariableDefinition same_variable_definition

pub operation_definition_laws : NodeLaws IsOperationDefinition
operation_definition_laws = definition_laws (codes "OperationDefinition") operation_definition_members HasOperationDefinition same_operation_definition

pub fragment_definition_laws : NodeLaws IsFragmentDefinition
fragment_definition_laws = definition_laws (codes "FragmentDefinition") fragment_definition_members HasFragmentDefinition same_fragment_definition
