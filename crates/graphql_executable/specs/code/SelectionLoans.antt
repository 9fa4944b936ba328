-- What a selection is once a loan of its directives has ended.
use Rattle.std.specs.Prelude.{◌≡◌, Result}
use Rattle.std.specs.Borrow.{MutBor, Fml, LendsSoOk}
use Rattle.graphql_base.specs.contracts.node.Node.{the_row as node_row}
use Rattle.graphql_base.specs.declared.node.Node.{Node}
use Rattle.graphql_base.specs.Node.{node_location, node_value}
use Rattle.graphql_values.specs.contracts.directive_list.DirectiveList.{the_row as list_row}
use Rattle.graphql_values.specs.declared.directive_list.DirectiveList.{DirectiveList}
use Rattle.graphql_executable.specs.code.SelectionQueries.{selection_directives}
use Rattle.graphql_executable.specs.contracts.field.Field.{the_row as field_row}
use Rattle.graphql_executable.specs.contracts.fragment_spread.FragmentSpread.{the_row as spread_row}
use Rattle.graphql_executable.specs.contracts.inline_fragment.InlineFragment.{the_row as inline_row}
use Rattle.graphql_executable.specs.contracts.selection.Selection.{the_row as selection_row}
use Rattle.graphql_executable.specs.declared.field.Field.{Field}
use Rattle.graphql_executable.specs.declared.fragment_spread.FragmentSpread.{FragmentSpread}
use Rattle.graphql_executable.specs.declared.inline_fragment.InlineFragment.{InlineFragment}
use Rattle.graphql_executable.specs.declared.selection.Selection.{Selection, Selection-F, out-Selection}
use Rattle.graphql_executable.specs.trees.ExecutableTrees.{IsFieldCloneOf, IsInlineFragmentCloneOf}

-- The node with these directives: its location stays, and all else is as it was or as a clone has it. Lists are compared by their items.
abbrev pub IsFieldWith : Node Field → DirectiveList → Node Field → Type 0
IsFieldWith old directives end =
    (node_location end ≡ node_location old) × IsFieldCloneOf (record (node_value old) { directives = directives }) (node_value end)

abbrev pub IsSpreadWith : Node FragmentSpread → DirectiveList → Node FragmentSpread → Type 0
IsSpreadWith old directives end =
    (node_location end ≡ node_location old) × ((node_value end).fragment_name ≡ (node_value old).fragment_name)
    × ((node_value end).directives.0.items ≡ directives.0.items)

abbrev pub IsInlineFragmentWith : Node InlineFragment → DirectiveList → Node InlineFragment → Type 0
IsInlineFragmentWith old directives end =
    (node_location end ≡ node_location old) × IsInlineFragmentCloneOf (record (node_value old) { directives = directives }) (node_value end)

abbrev pub is_with_directives : Selection-F Selection Field InlineFragment → DirectiveList → Selection-F Selection Field InlineFragment → Type 0
is_with_directives (Selection-F.Field old) directives (Selection-F.Field end) = IsFieldWith old directives end
is_with_directives (Selection-F.FragmentSpread old) directives (Selection-F.FragmentSpread end) = IsSpreadWith old directives end
is_with_directives (Selection-F.InlineFragment old) directives (Selection-F.InlineFragment end) = IsInlineFragmentWith old directives end
is_with_directives _ directives _ = ⊥

-- the selection is of the same variant, with these directives
abbrev pub IsSelectionWith : Selection → DirectiveList → Selection → Type 0
IsSelectionWith old directives end = is_with_directives (out-Selection old) directives (out-Selection end)

-- what is lent ends with the last directives written through the loan; without a loan it is as it was
abbrev pub LendsFieldDirectives : {E : Type 0} → MutBor (Node Field) → Result (MutBor DirectiveList) E → Fml
LendsFieldDirectives node loan =
    LendsSoOk (node_row field_row) list_row node loan (λ end directives. IsFieldWith node.now directives end)
    (λ end. IsFieldWith node.now (node_value node.now).directives end)

abbrev pub LendsSpreadDirectives : {E : Type 0} → MutBor (Node FragmentSpread) → Result (MutBor DirectiveList) E → Fml
LendsSpreadDirectives node loan =
    LendsSoOk (node_row spread_row) list_row node loan (λ end directives. IsSpreadWith node.now directives end)
    (λ end. IsSpreadWith node.now (node_value node.now).directives end)

abbrev pub LendsInlineFragmentDirectives : {E : Type 0} → MutBor (Node InlineFragment) → Result (MutBor DirectiveList) E → Fml
LendsInlineFragmentDirectives node loan =
    LendsSoOk (node_row inline_row) list_row node loan (λ end directives. IsInlineFragmentWith node.now directives end)
    (λ end. IsInlineFragmentWith node.now (node_value node.now).directives end)

abbrev pub LendsSelectionDirectives : {E : Type 0} → MutBor Selection → Result (MutBor DirectiveList) E → Fml
LendsSelectionDirectives selection loan =
    LendsSoOk selection_row list_row selection loan (λ end directives. IsSelectionWith selection.now directives end)
    (λ end. IsSelectionWith selection.now (selection_directives selection.now) end)
