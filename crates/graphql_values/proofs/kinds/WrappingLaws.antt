-- What a wrapping tells of a type: all of it; and how assignability compares two.
use Rattle.std.proofs.Common.{◌≡◌, ◌<◌, Bool, true, false, List, [], ◌∷◌, IsTrue, length, refl, ap, ap₂, sym, ◌∙◌, subst, arith}
use Rattle.std.specs.List.{AllZip}
use Rattle.graphql_base.specs.declared.name.Name.{Name}
use Rattle.graphql_text.specs.lexical.Literals.{NameText}
use Rattle.graphql_text.proofs.lexical.CheckedTexts.{same_text}
use Rattle.graphql_text.specs.trees.Leaves.{name_tree}
use Rattle.graphql_values.specs.kinds.TypeReferences.{TypeTree, named_type, non_null_named_type, list_type, non_null_list_type}
use Rattle.graphql_values.specs.trees.TypeTrees.{type_tree, type_tree_step, type_wrapping, type_wrapping_step}
use Rattle.graphql_values.specs.kinds.Wrappings.{Wrapping, IsAssignable, first_set, is_first_non_null, is_non_null, renamed}
use Rattle.graphql_values.specs.kinds.Wrappings.{tree_nullability, tree_wrapping, with_nullability}
use Rattle.graphql_values.specs.declared.types.Type.{«Type», Type-F, roll-Type, fold-roll-Type, map-Type, ind-Type}

-- A TREE IS ITS WRAPPING

abbrev named : Bool → NameText → TypeTree
named false name = named_type name
named true name = non_null_named_type name

abbrev list : Bool → TypeTree → TypeTree
list false item = list_type item
list true item = non_null_list_type item

abbrev around : NameText → Bool → List Bool → TypeTree → TypeTree
around name non_null [] item = named non_null name
around name non_null (_ ∷ _) item = list non_null item

abbrev rebuilt : NameText → List Bool → TypeTree
rebuilt name [] = named_type name
rebuilt name (non_null ∷ inner) = around name non_null inner (rebuilt name inner)

around_list : (name : NameText) (non_null : Bool) (item inner : TypeTree) → around name non_null (tree_nullability item) inner ≡ list non_null inner
around_list name non_null (named_type _) inner = refl
around_list name non_null (non_null_named_type _) inner = refl
around_list name non_null (list_type _) inner = refl
around_list name non_null (non_null_list_type _) inner = refl

rebuilt_tree : (tree : TypeTree) → rebuilt (tree_wrapping tree).base (tree_nullability tree) ≡ tree
rebuilt_tree (named_type name) = refl
rebuilt_tree (non_null_named_type name) = refl
rebuilt_tree (list_type item) =
    around_list (tree_wrapping item).base false item (rebuilt (tree_wrapping item).base (tree_nullability item))
    ∙ ap list_type (rebuilt_tree item)
rebuilt_tree (non_null_list_type item) =
    around_list (tree_wrapping item).base true item (rebuilt (tree_wrapping item).base (tree_nullability item))
    ∙ ap non_null_list_type (rebuilt_tree item)

same_tree : (a b : TypeTree) → (tree_wrapping a).base ≡ (tree_wrapping b).base → tree_nullability a ≡ tree_nullability b → a ≡ b
same_tree a b base nullability = sym (rebuilt_tree a) ∙ ap₂ rebuilt base nullability ∙ rebuilt_tree b

pub same_wrapping : (a b : TypeTree) → tree_wrapping a ≡ tree_wrapping b → a ≡ b
same_wrapping a b same = same_tree a b (ap (λ w. w.base) same) (ap (λ w. w.nullability) same)

-- A TYPE OF THE CODE AND ITS TREE HAVE ONE WRAPPING

abbrev IsWrapped : «Type» → Type 0
IsWrapped ty = tree_wrapping (type_tree ty) ≡ renamed name_tree (type_wrapping ty)

abbrev wrapped_level : Type-F ((ty : «Type») × IsWrapped ty) → Type-F «Type»
wrapped_level level = map-Type ((ty : «Type») × IsWrapped ty) «Type» (λ inside. inside.0) level

at_roll : (level : Type-F «Type») →
    tree_wrapping (type_tree_step (map-Type «Type» TypeTree type_tree level))
    ≡ renamed name_tree (type_wrapping_step (map-Type «Type» (Wrapping Name) type_wrapping level)) →
    IsWrapped (roll-Type level)
at_roll level same =
    ap tree_wrapping (fold-roll-Type TypeTree type_tree_step level) ∙ same
    ∙ sym (ap (renamed name_tree) (fold-roll-Type (Wrapping Name) type_wrapping_step level))

wrapped_inside : (level : Type-F ((ty : «Type») × IsWrapped ty)) → IsWrapped (roll-Type (wrapped_level level))
wrapped_inside (Type-F.Named name) = at_roll (Type-F.Named name) refl
wrapped_inside (Type-F.NonNullNamed name) = at_roll (Type-F.NonNullNamed name) refl
wrapped_inside (Type-F.List item) =
    at_roll (wrapped_level (Type-F.List item)) (ap (λ w. record { base = w.base; nullability = false ∷ w.nullability }) item.value.1)
wrapped_inside (Type-F.NonNullList item) =
    at_roll (wrapped_level (Type-F.NonNullList item)) (ap (λ w. record { base = w.base; nullability = true ∷ w.nullability }) item.value.1)

pub wrapped : (ty : «Type») → IsWrapped ty
wrapped = ind-Type IsWrapped (λ level inside same. subst (λ level. IsWrapped (roll-Type level)) same (wrapped_inside inside))

-- types of one wrapping have one tree
pub clone_tree : (a b : «Type») → type_wrapping b ≡ type_wrapping a → type_tree b ≡ type_tree a
clone_tree a b same = same_wrapping (type_tree b) (type_tree a) (wrapped b ∙ ap (renamed name_tree) same ∙ sym (wrapped a))

-- NULLABILITY THAT WAS SET

pub some_nullability : (tree : TypeTree) → 0 < length (tree_nullability tree)
some_nullability (named_type name) = omega arith
some_nullability (non_null_named_type name) = omega arith
some_nullability (list_type item) = omega arith
some_nullability (non_null_list_type item) = omega arith

pub set_twice : (m n : Bool) (nullability : List Bool) → first_set n (first_set m nullability) ≡ first_set n nullability
set_twice m n [] = refl
set_twice m n (_ ∷ inner) = refl

first_of_set : (n : Bool) (tree : TypeTree) → is_first_non_null (first_set n (tree_nullability tree)) ≡ n
first_of_set n (named_type name) = refl
first_of_set n (non_null_named_type name) = refl
first_of_set n (list_type item) = refl
first_of_set n (non_null_list_type item) = refl

pub is_set : (n : Bool) (ty made : «Type») → type_wrapping made ≡ with_nullability n (type_wrapping ty) → is_non_null (type_tree made) ≡ n
is_set n ty made set =
    ap (λ w. is_first_non_null w.nullability) (wrapped made ∙ ap (renamed name_tree) set)
    ∙ ap (λ w. is_first_non_null (first_set n w.nullability)) (sym (wrapped ty))
    ∙ first_of_set n (type_tree ty)

first_given_back : (n m : Bool) (nullability : List Bool) → is_first_non_null nullability ≡ n → first_set n (first_set m nullability) ≡ nullability
first_given_back n m [] was = refl
first_given_back n m (b ∷ inner) was = ap (λ first. first ∷ inner) (sym was)

pub set_back : (n m : Bool) (ty : «Type») → is_non_null (type_tree ty) ≡ n → with_nullability n (with_nullability m (type_wrapping ty)) ≡ type_wrapping ty
set_back n m ty was =
    let first : is_first_non_null (type_wrapping ty).nullability ≡ n = ap (λ w. is_first_non_null w.nullability) (sym (wrapped ty)) ∙ was in
    ap (λ nullability. record { base = (type_wrapping ty).base; nullability = nullability }) (first_given_back n m (type_wrapping ty).nullability first)

-- ASSIGNABILITY

abbrev Admits : Bool → Bool → Type 0
Admits given wanted = IsTrue wanted → IsTrue given

admits_itself : (ns : List Bool) → AllZip Admits ns ns
admits_itself [] = tt
admits_itself (n ∷ ns) = (λ h. h, admits_itself ns)

admits_through : (xs ys zs : List Bool) → AllZip Admits xs ys → AllZip Admits ys zs → AllZip Admits xs zs
admits_through [] [] [] p q = tt
admits_through (x ∷ xs) (y ∷ ys) (z ∷ zs) p q = (λ h. p.0 (q.0 h), admits_through xs ys zs p.1 q.1)
admits_through [] [] (z ∷ zs) p q = absurd q
admits_through [] (y ∷ ys) zs p q = absurd p
admits_through (x ∷ xs) [] zs p q = absurd p
admits_through (x ∷ xs) (y ∷ ys) [] p q = absurd q

same_bools : (a b : Bool) → Admits a b → Admits b a → a ≡ b
same_bools true b p q = sym (q refl)
same_bools false true p q = p refl
same_bools false false p q = refl

admits_both : (xs ys : List Bool) → AllZip Admits xs ys → AllZip Admits ys xs → xs ≡ ys
admits_both [] [] p q = refl
admits_both (x ∷ xs) (y ∷ ys) p q = ap₂ (λ n ns. n ∷ ns) (same_bools x y p.0 q.0) (admits_both xs ys p.1 q.1)
admits_both [] (y ∷ ys) p q = absurd p
admits_both (x ∷ xs) [] p q = absurd p

pub assignable_reflexive : (tree : TypeTree) → IsAssignable tree tree
assignable_reflexive tree = record { base = refl; nullability = admits_itself (tree_nullability tree) }

pub assignable_transitive : (a b c : TypeTree) → IsAssignable a b → IsAssignable b c → IsAssignable a c
assignable_transitive a b c p q = record {
  base = p.base ∙ q.base;
  nullability = admits_through (tree_nullability a) (tree_nullability b) (tree_nullability c) p.nullability q.nullability;
}

pub assignable_antisymmetric : (a b : TypeTree) → IsAssignable a b → IsAssignable b a → a ≡ b
assignable_antisymmetric a b p q =
    same_tree a b (same_text (tree_wrapping a).base (tree_wrapping b).base p.base)
    (admits_both (tree_nullability a) (tree_nullability b) p.nullability q.nullability)
