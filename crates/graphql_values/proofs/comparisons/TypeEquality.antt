-- What the derived `==` of types decides: whether their trees are the same.
use Rattle.std.proofs.Common.{◌≡◌, Bool, false, eqb, refl, sym, ap, ap₂, ◌∙◌, subst}
use Rattle.std.specs.Bool.{Decides}
use Rattle.std.specs.Cmp.Lexicographic.{pointwise}
use denote.Enum.Compared.{Each, by}
use Rattle.graphql_text.specs.lexical.Literals.{NameText}
use Rattle.graphql_values.proofs.comparisons.ValueEquality.{through, never, names_decide}
use Rattle.graphql_text.specs.trees.Leaves.{name_tree}
use Rattle.graphql_values.specs.kinds.TypeReferences.{TypeTree, named_type, non_null_named_type, list_type, non_null_list_type}
use Rattle.graphql_values.specs.trees.TypeTrees.{type_tree, type_tree_step}
use Rattle.graphql_values.specs.contracts.types.Type.{enum as Shape}
use Rattle.graphql_values.specs.contracts.types.TypePartialEq.TheImpl.{ghosts}
use Rattle.graphql_values.specs.contracts.types.TypePartialEq.TheImpl.Laws.{is}
use Rattle.graphql_values.specs.declared.types.Type.{«Type», Type-F, out-Type, roll-Type, out-roll-Type, roll-out-Type, fold-roll-Type, map-Type, ind-Type}
use Rattle.graphql_values.specs.declared.types.Type.TheBlock.{split-Type, the_family}
use Rattle.graphql_values.specs.declared.types.Type.TheViews.{parts_is-Type}

abbrev same : «Type» → «Type» → Bool
same = ghosts.eq

-- `==` AT ONE LEVEL, OVER AN `==` OF WHAT IS INSIDE

abbrev eq_step : («Type» → «Type» → Bool) → Type-F «Type» → Type-F «Type» → Bool
eq_step E (Type-F.Named x) (Type-F.Named y) = pointwise eqb x.text.bytes y.text.bytes
eq_step E (Type-F.NonNullNamed x) (Type-F.NonNullNamed y) = pointwise eqb x.text.bytes y.text.bytes
eq_step E (Type-F.List x) (Type-F.List y) = E x.value y.value
eq_step E (Type-F.NonNullList x) (Type-F.NonNullList y) = E x.value y.value
eq_step E x y = false

-- the same, for each variant in turn
abbrev each : Each Bool Shape.parts
each = (
  λ a b. pointwise eqb a.0.text.bytes b.0.text.bytes,
  (λ a b. pointwise eqb a.0.text.bytes b.0.text.bytes, (λ a b. same a.0.value b.0.value, (λ a b. same a.0.value b.0.value, tt))),
)

abbrev stepped : Type-F «Type» → Type-F «Type» → Bool
stepped x y = by false false Shape.parts each (split-Type the_family x) (split-Type the_family y)

at_level : (x y : Type-F «Type») → stepped x y ≡ eq_step same x y
at_level (Type-F.Named x) (Type-F.Named y) = refl
at_level (Type-F.NonNullNamed x) (Type-F.NonNullNamed y) = refl
at_level (Type-F.List x) (Type-F.List y) = refl
at_level (Type-F.NonNullList x) (Type-F.NonNullList y) = refl
at_level x y = refl

is_by : (u v : «Type») → same u v ≡ by false false Shape.parts each (Shape.as_values u) (Shape.as_values v)
is_by u v = is u v

is_stepped : (u v : «Type») → same u v ≡ stepped (out-Type u) (out-Type v)
is_stepped u v = is_by u v ∙ ap₂ (by false false Shape.parts each) (parts_is-Type u) (parts_is-Type v)

eq_is : (x y : Type-F «Type») → same (roll-Type x) (roll-Type y) ≡ eq_step same x y
eq_is x y = is_stepped (roll-Type x) (roll-Type y) ∙ ap₂ stepped (out-roll-Type x) (out-roll-Type y) ∙ at_level x y

-- WHAT A TREE IS MADE OF

module _ (name : NameText) where
  abbrev name_in : TypeTree → NameText
  name_in (named_type t) = t
  name_in (non_null_named_type t) = t
  name_in _ = name

module _ (tree : TypeTree) where
  abbrev item_in : TypeTree → TypeTree
  item_in (list_type t) = t
  item_in (non_null_list_type t) = t
  item_in _ = tree

-- ONE LEVEL, WHERE `==` OF WHAT IS INSIDE DECIDES

module _ {S : Type 0} (down : S → «Type») (known : (e : S) (v : «Type») → Decides (same (down e) v) (type_tree (down e) ≡ type_tree v)) where
  level_decides : (y : Type-F S) (z : Type-F «Type») →
      Decides (eq_step same (map-Type S «Type» down y) z)
      (type_tree_step (map-Type «Type» TypeTree type_tree (map-Type S «Type» down y))
      ≡ type_tree_step (map-Type «Type» TypeTree type_tree z))
  level_decides (Type-F.Named x) (Type-F.Named y) = through (names_decide x y) (ap (name_in (name_tree x))) (ap named_type)
  level_decides (Type-F.NonNullNamed x) (Type-F.NonNullNamed y) = through (names_decide x y) (ap (name_in (name_tree x))) (ap non_null_named_type)
  level_decides (Type-F.List x) (Type-F.List y) = through (known x.value y.value) (ap (item_in (type_tree y.value))) (ap list_type)
  level_decides (Type-F.NonNullList x) (Type-F.NonNullList y) = through (known x.value y.value) (ap (item_in (type_tree y.value))) (ap non_null_list_type)
  level_decides y z = never (λ e. cc)

-- AT EVERY LEVEL

abbrev IsKnown : «Type» → Type 0
IsKnown u = (v : «Type») → Decides (same u v) (type_tree u ≡ type_tree v)

at_rolls : (x z : Type-F «Type») →
    Decides (eq_step same x z)
    (type_tree_step (map-Type «Type» TypeTree type_tree x) ≡ type_tree_step (map-Type «Type» TypeTree type_tree z)) →
    Decides (same (roll-Type x) (roll-Type z)) (type_tree (roll-Type x) ≡ type_tree (roll-Type z))
at_rolls x z d = (
  λ e. fold-roll-Type TypeTree type_tree_step x ∙ d.0 (sym (eq_is x z) ∙ e) ∙ sym (fold-roll-Type TypeTree type_tree_step z),
  λ e. eq_is x z ∙ d.1 (sym (fold-roll-Type TypeTree type_tree_step x) ∙ e ∙ fold-roll-Type TypeTree type_tree_step z),
)

pub types_decide : (u v : «Type») → Decides (same u v) (type_tree u ≡ type_tree v)
types_decide = ind-Type IsKnown (λ x y e.
    let inside = map-Type _ «Type» (λ e. e.0) y in
    subst (λ x. IsKnown (roll-Type x)) e
    (λ v. subst (λ v. Decides (same (roll-Type inside) v) (type_tree (roll-Type inside) ≡ type_tree v)) (roll-out-Type v)
    (at_rolls inside (out-Type v) (level_decides (λ e. e.0) (λ e. e.1) y (out-Type v)))))
