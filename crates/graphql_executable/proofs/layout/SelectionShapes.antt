-- The trees of selections, fields and inline fragments, and what their nesting and their side conditions are.
use Rattle.std.proofs.Common.{arith, ◌≡◌, ◌==◌, ◌&&◌, max, not, List, [], ◌∷◌, ◌++◌, false, length, refl, ap, sym, append-nil, ◌∙◌}
use Rattle.std.proofs.lemmas.Bool.{true≢false}
use Rattle.std.proofs.Math.Dec.{eqb-suc-zero}
use Rattle.std.specs.Option.{option_map}
use Rattle.graphql_base.specs.declared.node.Node.{Node}
use Rattle.graphql_text.specs.layout.Layout.{Space, Word}
use Rattle.graphql_text.specs.trees.Leaves.{name_tree}
use Rattle.graphql_text.specs.lexical.Tokens.{lbrace, rbrace, Punctuation}
use Rattle.graphql_values.specs.trees.DirectiveTrees.{argument_trees, directive_node_trees, directive_trees}
use Rattle.graphql_values.specs.kinds.Arguments.{arguments_nesting}
use Rattle.graphql_values.specs.kinds.Directives.{directives_nesting}
use Rattle.graphql_values.specs.declared.argument.Argument.{Argument}
use Rattle.graphql_values.specs.declared.directive.Directive.{Directive}
use Rattle.graphql_executable.specs.trees.ExecutableTrees.{field_tree, field_tree_step, fragment_spread_tree, inline_fragment_tree}
use Rattle.graphql_executable.specs.trees.ExecutableTrees.{inline_fragment_tree_step, selection_tree, selection_tree_step, selection_trees}
use Rattle.graphql_executable.specs.kinds.Fields.{FieldTree, field_kind, selection_of_field}
use Rattle.graphql_executable.specs.kinds.FragmentSpreads.{fragment_spread_kind, fragment_spread_shape}
use Rattle.graphql_executable.specs.kinds.InlineFragments.{InlineFragmentTree, inline_fragment_kind, selection_of_inline_fragment}
use Rattle.graphql_executable.specs.kinds.SelectionHeads.{FieldHeadTree, InlineFragmentHeadTree, field_head_nesting, field_head_obeys}
use Rattle.graphql_executable.specs.kinds.SelectionHeads.{field_head_shape, inline_fragment_head_nesting, inline_fragment_head_obeys}
use Rattle.graphql_executable.specs.kinds.SelectionHeads.{inline_fragment_head_shape}
use Rattle.graphql_executable.specs.code.SelectionWalk.{has_set}
use Rattle.graphql_executable.specs.kinds.Selections.{SelectionTree, SelectionTrees, field_selection, has_selections, inline_selection}
use Rattle.graphql_executable.specs.kinds.Selections.{more_selections, no_selections, selection_flaws, selection_nesting, selection_obeys, selection_shape}
use Rattle.graphql_executable.specs.kinds.Selections.{selection_set_nesting, selection_set_obeys, selections_obey, spread_selection}
use Rattle.graphql_executable.specs.declared.field.Field.{Field, fold_out-Field}
use Rattle.graphql_executable.specs.declared.fragment_spread.FragmentSpread.{FragmentSpread}
use Rattle.graphql_executable.specs.declared.inline_fragment.InlineFragment.{InlineFragment, fold_out-InlineFragment}
use Rattle.graphql_executable.specs.declared.selection.Selection.{Selection, fold-roll-Selection}
use Rattle.graphql_executable.specs.declared.selection.Selection.TheOpen as layer
use Rattle.graphql_executable.specs.declared.selection.Selection.TheVariants as variant

-- THE TREES OF FIELDS AND INLINE FRAGMENTS

abbrev pub field_head : Field → FieldHeadTree
field_head a = record {
  alias = option_map name_tree a.alias;
  name = name_tree a.name;
  arguments = argument_trees a.arguments.items;
  directives = directive_trees a.directives;
}

abbrev pub inline_fragment_head : InlineFragment → InlineFragmentHeadTree
inline_fragment_head a = record { type_condition = option_map name_tree a.type_condition; directives = directive_trees a.directives }

pub field_is : (a : Field) → field_tree a ≡ record { head = field_head a; selections = selection_trees a.selection_set.items }
field_is = fold_out-Field SelectionTree FieldTree InlineFragmentTree selection_tree_step field_tree_step inline_fragment_tree_step

pub inline_fragment_is : (a : InlineFragment) →
    inline_fragment_tree a ≡ record { head = inline_fragment_head a; selections = selection_trees a.selection_set.items }
inline_fragment_is = fold_out-InlineFragment SelectionTree FieldTree InlineFragmentTree selection_tree_step field_tree_step inline_fragment_tree_step

pub field_head_is : (a : Field) → (field_tree a).head ≡ field_head a
field_head_is a = ap (λ t. t.head) (field_is a)

pub inline_fragment_head_is : (a : InlineFragment) → (inline_fragment_tree a).head ≡ inline_fragment_head a
inline_fragment_head_is a = ap (λ t. t.head) (inline_fragment_is a)

pub field_selections_are : (a : Field) → (field_tree a).selections ≡ selection_trees a.selection_set.items
field_selections_are a = ap (λ t. t.selections) (field_is a)

pub inline_selections_are : (a : InlineFragment) → (inline_fragment_tree a).selections ≡ selection_trees a.selection_set.items
inline_selections_are a = ap (λ t. t.selections) (inline_fragment_is a)

-- THE TREES OF SELECTIONS

pub selection_is_field : (n : Node Field) → selection_tree (variant.Field n) ≡ selection_of_field (field_tree n.value)
selection_is_field n =
    ap selection_tree (sym (variant.rolls-Field n))
    ∙ fold-roll-Selection SelectionTree FieldTree InlineFragmentTree selection_tree_step field_tree_step inline_fragment_tree_step
    (layer.Field n)

pub selection_is_spread : (n : Node FragmentSpread) → selection_tree (variant.FragmentSpread n) ≡ spread_selection (fragment_spread_tree n.value)
selection_is_spread n =
    ap selection_tree (sym (variant.rolls-FragmentSpread n))
    ∙ fold-roll-Selection SelectionTree FieldTree InlineFragmentTree selection_tree_step field_tree_step inline_fragment_tree_step
    (layer.FragmentSpread n)

pub selection_is_inline : (n : Node InlineFragment) → selection_tree (variant.InlineFragment n) ≡ selection_of_inline_fragment (inline_fragment_tree n.value)
selection_is_inline n =
    ap selection_tree (sym (variant.rolls-InlineFragment n))
    ∙ fold-roll-Selection SelectionTree FieldTree InlineFragmentTree selection_tree_step field_tree_step inline_fragment_tree_step
    (layer.InlineFragment n)

-- THEIR NESTING AND THEIR FLAWS

pub nesting_field : (n : Node Field) →
    selection_nesting (selection_tree (variant.Field n))
    ≡ max (field_head_nesting (field_tree n.value).head) (selection_set_nesting (selection_trees n.value.selection_set.items))
nesting_field n =
    ap selection_nesting (selection_is_field n)
    ∙ ap (λ set. max (field_head_nesting (field_tree n.value).head) (selection_set_nesting set)) (field_selections_are n.value)

pub nesting_spread : (n : Node FragmentSpread) →
    selection_nesting (selection_tree (variant.FragmentSpread n)) ≡ directives_nesting (directive_trees n.value.directives)
nesting_spread n = ap selection_nesting (selection_is_spread n)

pub nesting_inline : (n : Node InlineFragment) →
    selection_nesting (selection_tree (variant.InlineFragment n))
    ≡ max (inline_fragment_head_nesting (inline_fragment_tree n.value).head)
    (selection_set_nesting (selection_trees n.value.selection_set.items))
nesting_inline n =
    ap selection_nesting (selection_is_inline n)
    ∙ ap (λ set. max (inline_fragment_head_nesting (inline_fragment_tree n.value).head) (selection_set_nesting set))
    (inline_selections_are n.value)

-- what has no arguments, directives and selections nests nothing
without_groups : (arguments : List (Node Argument)) (directives : List (Node Directive)) (selections : List Selection) →
    length arguments ≡ 0 → length directives ≡ 0 → length selections ≡ 0 →
    max (max (arguments_nesting (argument_trees arguments)) (directives_nesting (directive_node_trees directives)))
    (selection_set_nesting (selection_trees selections)) ≡ 0
without_groups [] [] [] a d s = refl
without_groups (_ ∷ _) ds ss a d s = omega (arith, a)
without_groups [] (_ ∷ _) ss a d s = omega (arith, d)
without_groups [] [] (_ ∷ _) a d s = omega (arith, s)

pub plain_field_nesting : (n : Node Field) → length n.value.arguments.items ≡ 0 → length n.value.directives.0.items ≡ 0 →
    length n.value.selection_set.items ≡ 0 → selection_nesting (selection_tree (variant.Field n)) ≡ 0
plain_field_nesting n a d s =
    nesting_field n
    ∙ ap (λ head. max (field_head_nesting head) (selection_set_nesting (selection_trees n.value.selection_set.items))) (field_head_is n.value)
    ∙ without_groups n.value.arguments.items n.value.directives.0.items n.value.selection_set.items a d s

spread_without : (directives : List (Node Directive)) → length directives ≡ 0 → directives_nesting (directive_node_trees directives) ≡ 0
spread_without [] d = refl
spread_without (_ ∷ _) d = omega (arith, d)

pub plain_spread_nesting : (n : Node FragmentSpread) → length n.value.directives.0.items ≡ 0 →
    selection_nesting (selection_tree (variant.FragmentSpread n)) ≡ 0
plain_spread_nesting n d = nesting_spread n ∙ spread_without n.value.directives.0.items d

pub ruleset plain_selection_steps = (plain_field_nesting, plain_spread_nesting)

pub obeys_field : (n : Node Field) →
    selection_obeys (selection_tree (variant.Field n))
    ≡ (field_head_obeys (field_tree n.value).head && selections_obey (selection_trees n.value.selection_set.items))
obeys_field n =
    ap selection_obeys (selection_is_field n)
    ∙ ap (λ set. field_head_obeys (field_tree n.value).head && selections_obey set) (field_selections_are n.value)

pub obeys_spread : (n : Node FragmentSpread) →
    selection_obeys (selection_tree (variant.FragmentSpread n)) ≡ fragment_spread_kind.obeys (fragment_spread_tree n.value)
obeys_spread n = ap selection_obeys (selection_is_spread n)

pub obeys_inline : (n : Node InlineFragment) →
    selection_obeys (selection_tree (variant.InlineFragment n))
    ≡ (inline_fragment_head_obeys (inline_fragment_tree n.value).head
    && selection_set_obeys (selection_trees n.value.selection_set.items))
obeys_inline n =
    ap selection_obeys (selection_is_inline n)
    ∙ ap (λ set. inline_fragment_head_obeys (inline_fragment_tree n.value).head && selection_set_obeys set) (inline_selections_are n.value)

pub flaws_field : (n : Node Field) → selection_flaws (selection_tree (variant.Field n)) ≡ field_kind.flaws (field_tree n.value)
flaws_field n = ap selection_flaws (selection_is_field n)

pub flaws_spread : (n : Node FragmentSpread) →
    selection_flaws (selection_tree (variant.FragmentSpread n)) ≡ fragment_spread_kind.flaws (fragment_spread_tree n.value)
flaws_spread n = ap selection_flaws (selection_is_spread n)

pub flaws_inline : (n : Node InlineFragment) →
    selection_flaws (selection_tree (variant.InlineFragment n)) ≡ inline_fragment_kind.flaws (inline_fragment_tree n.value)
flaws_inline n = ap selection_flaws (selection_is_inline n)

pub has_selections_is : (selections : List Selection) → has_selections (selection_trees selections) ≡ not (length selections == 0)
has_selections_is [] = refl
has_selections_is (selection ∷ more) = rw (eqb-suc-zero (length more)) refl

-- SELECTIONS WITHOUT A SET

pub has_set_field : (n : Node Field) → has_set (selection_tree (variant.Field n)) ≡ not (length n.value.selection_set.items == 0)
has_set_field n = ap has_set (selection_is_field n) ∙ ap has_selections (field_selections_are n.value) ∙ has_selections_is n.value.selection_set.items

pub has_set_spread : (n : Node FragmentSpread) → has_set (selection_tree (variant.FragmentSpread n)) ≡ false
has_set_spread n = ap has_set (selection_is_spread n)

pub has_set_inline : (n : Node InlineFragment) → has_set (selection_tree (variant.InlineFragment n)) ≡ not (length n.value.selection_set.items == 0)
has_set_inline n = ap has_set (selection_is_inline n) ∙ ap has_selections (inline_selections_are n.value) ∙ has_selections_is n.value.selection_set.items

-- what is written of them
plain_field : (head : FieldHeadTree) (set : SelectionTrees) → has_selections set ≡ false → selection_shape (field_selection head set) ≡ field_head_shape head
unfolding selection_shape
plain_field head no_selections none = append-nil (field_head_shape head)
plain_field head (more_selections selection more) none = absurd (true≢false none)

empty_inline : (head : InlineFragmentHeadTree) (set : SelectionTrees) → has_selections set ≡ false →
    selection_shape (inline_selection head set) ≡ inline_fragment_head_shape head ++ (Space ∷ Word (Punctuation lbrace) ∷ Word (Punctuation rbrace) ∷ [])
unfolding selection_shape
empty_inline head no_selections none = refl
empty_inline head (more_selections selection more) none = absurd (true≢false none)

pub plain_field_shape : (n : Node Field) → has_set (selection_tree (variant.Field n)) ≡ false →
    selection_shape (selection_tree (variant.Field n)) ≡ field_head_shape (field_tree n.value).head
plain_field_shape n none =
    ap selection_shape (selection_is_field n)
    ∙ plain_field (field_tree n.value).head (field_tree n.value).selections (rw (selection_is_field n) at none)

pub spread_shape : (n : Node FragmentSpread) →
    selection_shape (selection_tree (variant.FragmentSpread n)) ≡ fragment_spread_shape (fragment_spread_tree n.value)
unfolding selection_shape
spread_shape n = ap selection_shape (selection_is_spread n)

pub empty_inline_shape : (n : Node InlineFragment) → has_set (selection_tree (variant.InlineFragment n)) ≡ false →
    selection_shape (selection_tree (variant.InlineFragment n))
    ≡ inline_fragment_head_shape (inline_fragment_tree n.value).head ++ (Space ∷ Word (Punctuation lbrace) ∷ Word (Punctuation rbrace) ∷ [])
empty_inline_shape n none =
    ap selection_shape (selection_is_inline n)
    ∙ empty_inline (inline_fragment_tree n.value).head (inline_fragment_tree n.value).selections (rw (selection_is_inline n) at none)

-- what the walk over selections cites
pub ruleset selection_obeys_steps = (obeys_field, obeys_spread, obeys_inline)

pub ruleset selection_flaws_steps = (flaws_field, flaws_spread, flaws_inline)

pub ruleset inline_fragment_steps = (inline_selections_are, inline_fragment_head_is)

pub ruleset selection_nesting_steps = (nesting_field, nesting_spread, nesting_inline)

pub ruleset selection_set_steps = (has_set_field, has_set_spread, has_set_inline)
