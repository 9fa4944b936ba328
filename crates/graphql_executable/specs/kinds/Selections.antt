-- Selections and their sets: SelectionSet and Selection, section 2.4; Field, section 2.5; FragmentSpread and InlineFragment, section 2.8.
use Rattle.std.specs.Prelude.{ℕ, max, List, [], ◌∷◌, ◌++◌, Bool, true, false, ◌&&◌, IsTrue, Option}
use Rattle.graphql_text.specs.lexical.Tokens.{lbrace, rbrace, Punctuation}
use Rattle.graphql_text.specs.grammar.Forms.{Form, token, no_tokens, ◌⨟◌, only_if}
use Rattle.graphql_text.specs.kinds.Kinds.{Kind}
use Rattle.graphql_text.specs.layout.Layout.{Item, Space, curly_group}
use Rattle.graphql_text.specs.layout.Nesting.{group_nesting}
use Rattle.graphql_executable.specs.kinds.FragmentSpreads.{FragmentSpreadTree, fragment_spread_shape, fragment_spread_nesting, fragment_spread_kind}
use Rattle.graphql_executable.specs.kinds.SelectionHeads.{FieldHeadTree, field_head_form, field_head_shape, field_head_nesting}
use Rattle.graphql_executable.specs.kinds.SelectionHeads.{field_head_obeys, InlineFragmentHeadTree, inline_fragment_head_form}
use Rattle.graphql_executable.specs.kinds.SelectionHeads.{inline_fragment_head_shape, inline_fragment_head_nesting}
use Rattle.graphql_executable.specs.kinds.SelectionHeads.{inline_fragment_head_obeys}
use Rattle.graphql_text.specs.declared.ill_formed.SideCondition.TheVariants.{HasSelection}
use Rattle.graphql_text.specs.kinds.Flaws.{Flaw, flaw_unless}
use Rattle.graphql_executable.specs.kinds.SelectionHeads.{field_head_flaws, inline_fragment_head_flaws}
use Rattle.graphql_text.specs.lexical.Literals.{NameText}

-- A selection without locations. The selections of a set stand in order, repeated ones too; a field has an empty set where it has none.
mutual
  pub data SelectionTree : Type 0 where
    field_selection : FieldHeadTree → SelectionTrees → SelectionTree
    spread_selection : FragmentSpreadTree → SelectionTree
    inline_selection : InlineFragmentHeadTree → SelectionTrees → SelectionTree

  pub data SelectionTrees : Type 0 where
    no_selections : SelectionTrees
    more_selections : SelectionTree → SelectionTrees → SelectionTrees

abbrev pub has_selections : SelectionTrees → Bool
has_selections no_selections = false
has_selections (more_selections selection more) = true

-- selections between braces, of which there has to be one
abbrev pub braced_form : Bool → Form → Form
braced_form some selections = token (Punctuation lbrace) ⨟ only_if (IsTrue some) selections ⨟ token (Punctuation rbrace)

-- the same, or nothing where there is none
abbrev pub optional_braced_form : Bool → Form → Form
optional_braced_form false selections = no_tokens
optional_braced_form true selections = braced_form true selections

-- The grammar of Selection, section 2.4. A field may have a selection set, an inline fragment has one.
unfoldable mutual
  pub selection_form : SelectionTree → Form
  -- Field, section 2.5
  selection_form (field_selection head set) = field_head_form head ⨟ optional_braced_form (has_selections set) (selections_form set)
  -- FragmentSpread, section 2.8
  selection_form (spread_selection fragment) = fragment_spread_kind.form fragment
  -- InlineFragment, section 2.8
  selection_form (inline_selection head set) = inline_fragment_head_form head ⨟ braced_form (has_selections set) (selections_form set)

  pub selections_form : SelectionTrees → Form
  selections_form no_selections = no_tokens
  selections_form (more_selections selection more) = selection_form selection ⨟ selections_form more

-- a curly group after a space, and nothing where there is nothing in it
abbrev pub optional_braced_shape : List (List Item) → List Item
optional_braced_shape [] = []
optional_braced_shape (selection ∷ more) = Space ∷ curly_group (selection ∷ more)

-- The layout of a selection. The set of a field is left off where it is empty; that of an inline fragment isn't.
unfoldable mutual
  pub selection_shape : SelectionTree → List Item
  selection_shape (field_selection head set) = field_head_shape head ++ optional_braced_shape (selections_shapes set)
  selection_shape (spread_selection fragment) = fragment_spread_shape fragment
  selection_shape (inline_selection head set) = inline_fragment_head_shape head ++ (Space ∷ curly_group (selections_shapes set))

  pub selections_shapes : SelectionTrees → List (List Item)
  selections_shapes no_selections = []
  selections_shapes (more_selections selection more) = selection_shape selection ∷ selections_shapes more

-- It nests as what stands before its selection set, or as that set does, whichever nest more.
abbrev mutual
  pub selection_nesting : SelectionTree → ℕ
  selection_nesting (field_selection head set) = max (field_head_nesting head) (group_nesting (selections_nestings set))
  selection_nesting (spread_selection fragment) = fragment_spread_nesting fragment
  selection_nesting (inline_selection head set) = max (inline_fragment_head_nesting head) (group_nesting (selections_nestings set))

  pub selections_nestings : SelectionTrees → List ℕ
  selections_nestings no_selections = []
  selections_nestings (more_selections selection more) = selection_nesting selection ∷ selections_nestings more

-- The side conditions: an inline fragment has a selection, no spread is named `on`, and arguments and directives obey theirs.
abbrev mutual
  pub selection_obeys : SelectionTree → Bool
  selection_obeys (field_selection head set) = field_head_obeys head && selections_obey set
  selection_obeys (spread_selection fragment) = fragment_spread_kind.obeys fragment
  selection_obeys (inline_selection head set) = inline_fragment_head_obeys head && (has_selections set && selections_obey set)

  pub selections_obey : SelectionTrees → Bool
  selections_obey no_selections = true
  selections_obey (more_selections selection more) = selection_obeys selection && selections_obey more

-- What breaks them, in the order of print. What an inline fragment is of may be named by its type condition.
abbrev mutual
  pub selection_flaws : SelectionTree → List Flaw
  selection_flaws (field_selection head set) = field_head_flaws head ++ selections_flaws set
  selection_flaws (spread_selection fragment) = fragment_spread_kind.flaws fragment
  selection_flaws (inline_selection head set) =
      inline_fragment_head_flaws head ++ (flaw_unless (has_selections set) HasSelection head.type_condition ++ selections_flaws set)

  pub selections_flaws : SelectionTrees → List Flaw
  selections_flaws no_selections = []
  selections_flaws (more_selections selection more) = selection_flaws selection ++ selections_flaws more

abbrev pub selection_kind : Kind
selection_kind = record {
  Tree = SelectionTree;
  form = selection_form;
  obeys = selection_obeys;
  flaws = selection_flaws;
  shape = λ broken front. selection_shape;
  nesting = selection_nesting;
}

-- SelectionSet, section 2.4: at least one selection between braces.
abbrev pub selection_set_form : SelectionTrees → Form
selection_set_form set = braced_form (has_selections set) (selections_form set)

abbrev pub selection_set_shape : SelectionTrees → List Item
selection_set_shape set = curly_group (selections_shapes set)

abbrev pub selection_set_nesting : SelectionTrees → ℕ
selection_set_nesting set = group_nesting (selections_nestings set)

abbrev pub selection_set_obeys : SelectionTrees → Bool
selection_set_obeys set = has_selections set && selections_obey set

-- the flaws of the selection set of what has this name, if it has one
abbrev pub selection_set_flaws : Option NameText → SelectionTrees → List Flaw
selection_set_flaws name set = flaw_unless (has_selections set) HasSelection name ++ selections_flaws set
