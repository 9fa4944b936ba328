-- What the derived `==` of selections, fields, fragment spreads and inline fragments decides: whether their trees are the same.
use Rattle.std.proofs.Common.{◌≡◌, Bool, false, List, [], ◌∷◌, map, map-id, refl, sym, ap, ap₂, ◌∙◌, subst}
use Rattle.std.specs.Bool.{Decides}
use Rattle.std.specs.Cmp.Lexicographic.{pointwise}
use denote.Enum.Compared.{Each, by}
use Rattle.graphql_text.specs.trees.Leaves.{name_tree}
use Rattle.graphql_values.proofs.comparisons.DirectiveEquality.{arguments_decide, directive_lists_decide, nodes_decide, options_decide}
use Rattle.graphql_values.proofs.comparisons.ValueEquality.{both, through, never, always, names_decide, same_names}
use Rattle.graphql_values.specs.trees.DirectiveTrees.{argument_tree}
use Rattle.graphql_values.specs.contracts.argument.ArgumentPartialEq.TheImpl as argument
use Rattle.graphql_executable.specs.trees.ExecutableTrees.{field_tree, field_tree_step, fragment_spread_tree, inline_fragment_tree}
use Rattle.graphql_executable.specs.trees.ExecutableTrees.{inline_fragment_tree_step, selection_tree, selection_tree_step, selection_trees}
use Rattle.graphql_executable.specs.kinds.Fields.{FieldTree, selection_of_field}
use Rattle.graphql_executable.specs.kinds.FragmentSpreads.{FragmentSpreadTree}
use Rattle.graphql_executable.specs.kinds.InlineFragments.{InlineFragmentTree, selection_of_inline_fragment}
use Rattle.graphql_executable.specs.kinds.Selections.{SelectionTree, SelectionTrees, field_selection, inline_selection, more_selections}
use Rattle.graphql_executable.specs.kinds.Selections.{no_selections, spread_selection}
use Rattle.graphql_executable.proofs.layout.SelectionShapes.{field_is, inline_fragment_is}
use Rattle.graphql_executable.specs.contracts.field.FieldPartialEq.TheImpl as field
use Rattle.graphql_executable.specs.contracts.field.FieldPartialEq.TheImpl.Laws as field_laws
use Rattle.graphql_executable.specs.contracts.fragment_spread.FragmentSpreadPartialEq.TheImpl as spread
use Rattle.graphql_executable.specs.contracts.inline_fragment.InlineFragmentPartialEq.TheImpl as inline
use Rattle.graphql_executable.specs.contracts.inline_fragment.InlineFragmentPartialEq.TheImpl.Laws as inline_laws
use Rattle.graphql_executable.specs.contracts.selection.Selection.{enum as Shape}
use Rattle.graphql_executable.specs.contracts.selection.SelectionPartialEq.TheImpl as selection
use Rattle.graphql_executable.specs.contracts.selection.SelectionPartialEq.TheImpl.Laws as selection_laws
use Rattle.graphql_executable.specs.declared.field.Field.{Field, roll-Field}
use Rattle.graphql_executable.specs.declared.fragment_spread.FragmentSpread.{FragmentSpread}
use Rattle.graphql_executable.specs.declared.inline_fragment.InlineFragment.{InlineFragment, roll-InlineFragment}
use Rattle.graphql_executable.specs.declared.selection.Selection.{Selection, fold-roll-Selection, ind-Selection, map-Selection}
use Rattle.graphql_executable.specs.declared.selection.Selection.{out-Selection, out-roll-Selection, roll-Selection, roll-out-Selection}
use Rattle.graphql_executable.specs.declared.selection.Selection.TheBlock.{split-Selection, the_family}
use Rattle.graphql_executable.specs.declared.selection.Selection.TheOpen.{Selection-F}

-- `==` OF FIELDS, INLINE FRAGMENTS AND FRAGMENT SPREADS, WHERE THAT OF SELECTIONS DECIDES

-- a decision of something that is the same
as_same : {a b : Bool} {P : Type 0} → a ≡ b → Decides b P → Decides a P
as_same {P = P} e d = subst (λ c. Decides c P) (sym e) d

module _ (a b : Field) where
  field_decides : Decides (pointwise selection.ghosts.eq a.selection_set.items b.selection_set.items)
      (selection_trees a.selection_set.items ≡ selection_trees b.selection_set.items) →
      Decides (field.ghosts.eq a b) (field_tree a ≡ field_tree b)
  field_decides selections =
      as_same (field_laws.is a b)
      (both _ _ (options_decide same_names name_tree names_decide a.alias b.alias) (both _ _ (names_decide a.name b.name) (both _ _
      (nodes_decide argument.ghosts.eq argument_tree arguments_decide a.arguments.items b.arguments.items)
      (both _ _ (directive_lists_decide a.directives b.directives) selections (λ e. e) (λ p q. (p, q))) (λ e. e) (λ p q. (p, q))) (λ e. e) (λ p q. (p, q)))
      (λ e.
      let t = sym (field_is a) ∙ e ∙ field_is b in (
        ap (λ x. x.head.alias) t,
        (ap (λ x. x.head.name) t, (ap (λ x. x.head.arguments) t, (ap (λ x. x.head.directives) t, ap (λ x. x.selections) t))),
      ))
      (λ p q.
      field_is a
      ∙ (λ i.
      record { head = record { alias = p i; name = q.0 i; arguments = q.1.0 i; directives = q.1.1.0 i }; selections = q.1.1.1 i })
      ∙ sym (field_is b)))

module _ (a b : InlineFragment) where
  inline_fragment_decides : Decides (pointwise selection.ghosts.eq a.selection_set.items b.selection_set.items)
      (selection_trees a.selection_set.items ≡ selection_trees b.selection_set.items) →
      Decides (inline.ghosts.eq a b) (inline_fragment_tree a ≡ inline_fragment_tree b)
  inline_fragment_decides selections =
      as_same (inline_laws.is a b) (both _ _ (options_decide same_names name_tree names_decide a.type_condition b.type_condition)
      (both _ _ (directive_lists_decide a.directives b.directives) selections (λ e. e) (λ p q. (p, q)))
      (λ e.
      let t = sym (inline_fragment_is a) ∙ e ∙ inline_fragment_is b in
      (ap (λ x. x.head.type_condition) t, (ap (λ x. x.head.directives) t, ap (λ x. x.selections) t)))
      (λ p q.
      inline_fragment_is a ∙ (λ i. record { head = record { type_condition = p i; directives = q.0 i }; selections = q.1 i })
      ∙ sym (inline_fragment_is b)))

pub fragment_spreads_decide : (a b : FragmentSpread) → Decides (spread.ghosts.eq a b) (fragment_spread_tree a ≡ fragment_spread_tree b)
fragment_spreads_decide a b =
    both _ _ (names_decide a.fragment_name b.fragment_name) (directive_lists_decide a.directives b.directives)
    (λ e. (ap (λ t. t.name) e, ap (λ t. t.directives) e)) (λ p q. λ i. record { name = p i; directives = q i })

-- `==` OF SELECTIONS AT ONE LEVEL

abbrev Level : Type 0
Level = Selection-F Selection Field InlineFragment

abbrev eq_step : Level → Level → Bool
eq_step (Selection-F.Field x) (Selection-F.Field y) = field.ghosts.eq x.value y.value
eq_step (Selection-F.FragmentSpread x) (Selection-F.FragmentSpread y) = spread.ghosts.eq x.value y.value
eq_step (Selection-F.InlineFragment x) (Selection-F.InlineFragment y) = inline.ghosts.eq x.value y.value
eq_step x y = false

-- the same, for each variant in turn
abbrev each : Each Bool Shape.parts
each = (λ a b. field.ghosts.eq a.0.value b.0.value, (λ a b. spread.ghosts.eq a.0.value b.0.value, (λ a b. inline.ghosts.eq a.0.value b.0.value, tt)))

abbrev stepped : Level → Level → Bool
stepped x y = by false false Shape.parts each (split-Selection the_family x) (split-Selection the_family y)

at_level : (x y : Level) → stepped x y ≡ eq_step x y
at_level (Selection-F.Field x) (Selection-F.Field y) = refl
at_level (Selection-F.FragmentSpread x) (Selection-F.FragmentSpread y) = refl
at_level (Selection-F.InlineFragment x) (Selection-F.InlineFragment y) = refl
at_level x y = refl

is_stepped : (u v : Selection) → selection.ghosts.eq u v ≡ stepped (out-Selection u) (out-Selection v)
is_stepped u v = selection_laws.is u v

eq_is : (x y : Level) → selection.ghosts.eq (roll-Selection x) (roll-Selection y) ≡ eq_step x y
eq_is x y = is_stepped (roll-Selection x) (roll-Selection y) ∙ ap₂ stepped (out-roll-Selection x) (out-roll-Selection y) ∙ at_level x y

-- WHAT A TREE IS MADE OF

abbrev first_selection : SelectionTree → SelectionTrees → SelectionTree
first_selection selection no_selections = selection
first_selection _ (more_selections selection more) = selection

abbrev other_selections : SelectionTrees → SelectionTrees
other_selections no_selections = no_selections
other_selections (more_selections selection more) = more

abbrev field_in : FieldTree → SelectionTree → FieldTree
field_in _ (field_selection head set) = record { head = head; selections = set }
field_in field _ = field

abbrev spread_in : FragmentSpreadTree → SelectionTree → FragmentSpreadTree
spread_in _ (spread_selection fragment) = fragment
spread_in fragment _ = fragment

abbrev inline_in : InlineFragmentTree → SelectionTree → InlineFragmentTree
inline_in _ (inline_selection head set) = record { head = head; selections = set }
inline_in fragment _ = fragment

-- AT EVERY LEVEL

abbrev IsKnown : Selection → Type 0
IsKnown u = (v : Selection) → Decides (selection.ghosts.eq u v) (selection_tree u ≡ selection_tree v)

abbrev IsKnownField : Field → Type 0
IsKnownField u = (v : Field) → Decides (field.ghosts.eq u v) (field_tree u ≡ field_tree v)

abbrev IsKnownInline : InlineFragment → Type 0
IsKnownInline u = (v : InlineFragment) → Decides (inline.ghosts.eq u v) (inline_fragment_tree u ≡ inline_fragment_tree v)

module _ {S : Type 0} (down : S → Selection) (known : (e : S) → IsKnown (down e)) where
  selections_known : (xs : List S) (ys : List Selection) →
      Decides (pointwise selection.ghosts.eq (map down xs) ys) (selection_trees (map down xs) ≡ selection_trees ys)
  selections_known [] [] = always refl
  selections_known [] (y ∷ ys) = never (λ e. cc)
  selections_known (x ∷ xs) [] = never (λ e. cc)
  selections_known (x ∷ xs) (y ∷ ys) =
      both _ _ (known x y) (selections_known xs ys) (λ e. (ap (first_selection (selection_tree y)) e, ap other_selections e))
      (λ p q. ap₂ more_selections p q)

module _ {S S' S'' : Type 0} (down : S → Selection) (down' : S' → Field) (down'' : S'' → InlineFragment)
    (known' : (e : S') → IsKnownField (down' e)) (known'' : (e : S'') → IsKnownInline (down'' e)) where
  abbrev inside : Selection-F S S' S'' → Level
  inside = map-Selection S S' S'' Selection Field InlineFragment down down' down''

  abbrev level_tree : Level → SelectionTree
  level_tree x =
      selection_tree_step (map-Selection Selection Field InlineFragment SelectionTree FieldTree InlineFragmentTree selection_tree field_tree
      inline_fragment_tree x)

  level_decides : (y : Selection-F S S' S'') (z : Level) → Decides (eq_step (inside y) z) (level_tree (inside y) ≡ level_tree z)
  level_decides (Selection-F.Field x) (Selection-F.Field y) = through (known' x.value y.value) (ap (field_in (field_tree y.value))) (ap selection_of_field)
  level_decides (Selection-F.FragmentSpread x) (Selection-F.FragmentSpread y) =
      through (fragment_spreads_decide x.value y.value) (ap (spread_in (fragment_spread_tree y.value))) (ap spread_selection)
  level_decides (Selection-F.InlineFragment x) (Selection-F.InlineFragment y) =
      through (known'' x.value y.value) (ap (inline_in (inline_fragment_tree y.value))) (ap selection_of_inline_fragment)
  level_decides y z = never (λ e. cc)

  rolled : (y : Selection-F S S' S'') (z : Level) →
      Decides (selection.ghosts.eq (roll-Selection (inside y)) (roll-Selection z))
      (selection_tree (roll-Selection (inside y)) ≡ selection_tree (roll-Selection z))
  rolled y z =
      let tree = fold-roll-Selection SelectionTree FieldTree InlineFragmentTree selection_tree_step field_tree_step inline_fragment_tree_step in
      as_same (eq_is (inside y) z) (through (level_decides y z) (λ e. sym (tree (inside y)) ∙ e ∙ tree z) (λ e. tree (inside y) ∙ e ∙ sym (tree z)))

  selection_known : (y : Selection-F S S' S'') → IsKnown (roll-Selection (inside y))
  selection_known y v =
      subst
      (λ v. Decides (selection.ghosts.eq (roll-Selection (inside y)) v) (selection_tree (roll-Selection (inside y)) ≡ selection_tree v))
      (roll-out-Selection v) (rolled y (out-Selection v))

pub selections_decide : (u v : Selection) → Decides (selection.ghosts.eq u v) (selection_tree u ≡ selection_tree v)
selections_decide = ind-Selection IsKnown IsKnownField IsKnownInline
    (λ x y e. subst (λ x. IsKnown (roll-Selection x)) e (selection_known (λ s. s.0) (λ s. s.0) (λ s. s.0) (λ s. s.1) (λ s. s.1) y))
    (λ x y e.
    subst (λ x. IsKnownField (roll-Field x)) e
    (λ v. field_decides _ v (selections_known (λ s. s.0) (λ s. s.1) y.selection_set.items v.selection_set.items)))
    (λ x y e.
    subst (λ x. IsKnownInline (roll-InlineFragment x)) e
    (λ v. inline_fragment_decides _ v (selections_known (λ s. s.0) (λ s. s.1) y.selection_set.items v.selection_set.items)))

pub selection_lists_decide : (xs ys : List Selection) → Decides (pointwise selection.ghosts.eq xs ys) (selection_trees xs ≡ selection_trees ys)
selection_lists_decide xs ys =
    subst (λ zs. Decides (pointwise selection.ghosts.eq zs ys) (selection_trees zs ≡ selection_trees ys)) (map-id xs)
    (selections_known (λ x. x) selections_decide xs ys)

pub fields_decide : (a b : Field) → Decides (field.ghosts.eq a b) (field_tree a ≡ field_tree b)
fields_decide a b = field_decides a b (selection_lists_decide a.selection_set.items b.selection_set.items)

pub inline_fragments_decide : (a b : InlineFragment) → Decides (inline.ghosts.eq a b) (inline_fragment_tree a ≡ inline_fragment_tree b)
inline_fragments_decide a b = inline_fragment_decides a b (selection_lists_decide a.selection_set.items b.selection_set.items)
