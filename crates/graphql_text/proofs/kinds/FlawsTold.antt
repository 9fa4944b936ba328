-- Of Flaws: what is found of two parts, and that flaws tell what the side conditions do.
use Rattle.std.proofs.Common.{ℕ, ◌+◌, ◌<◌, ◌≡◌, List, [], ◌∷◌, ◌++◌, length, drop, get_or}
use Rattle.std.proofs.Common.{Bool, true, false, ◌&&◌, Option, Some, None, refl, sym, ap, ◌∙◌}
use Rattle.std.proofs.Common.{is_none, is_some}
use Rattle.std.specs.List.{list_all, flat_map}
use Rattle.graphql_text.specs.kinds.Flaws.{Flaw, flaw_unless, first_flaw, has_no_flaw, TellsFlaws}
use Rattle.graphql_text.specs.code.IllFormed.{IsFirstFlaw, flaw_of, found_flaw}
use Rattle.graphql_text.specs.declared.ill_formed.IllFormed.{IllFormed}
use Rattle.graphql_text.specs.declared.ill_formed.SideCondition.{SideCondition}
use Rattle.graphql_text.specs.lexical.Literals.{NameText}
use Rattle.graphql_text.specs.parts.Optional.{optional_obeys, optional_flaws}
use Rattle.graphql_text.proofs.general.SliceRest.{next_item}

-- WHAT IS FOUND

-- nothing in the first part: what is found in the second
found_second : (xs ys : List Flaw) → None ≡ first_flaw xs → first_flaw (xs ++ ys) ≡ first_flaw ys
found_second [] ys none = refl
found_second (x ∷ xs) ys none = cc

-- something in the first part
found_first : (xs ys : List Flaw) (flaw : Flaw) → Some flaw ≡ first_flaw xs → first_flaw (xs ++ ys) ≡ Some flaw
found_first [] ys flaw some = cc
found_first (x ∷ xs) ys flaw some = sym some

-- of two parts, as they are asked one after the other
pub found_in_first : (found : Option IllFormed) (xs ys : List Flaw) → IsFirstFlaw xs found → is_some found ≡ true → IsFirstFlaw (xs ++ ys) found
found_in_first None xs ys first some = cc
found_in_first (Some found) xs ys first some = sym (found_first xs ys (flaw_of found) first)

pub found_in_second : (found other : Option IllFormed) (xs ys : List Flaw) → IsFirstFlaw xs found → is_some found ≡ false → IsFirstFlaw ys other →
    IsFirstFlaw (xs ++ ys) other
found_in_second None other xs ys first none second = second ∙ sym (found_second xs ys first)
found_in_second (Some found) other xs ys first none second = cc

pub ruleset flaw_steps = (found_in_first, found_in_second)

-- of parts in a row, in a loop over them
module _ {A : Type 0} (one : A → List Flaw) (all : List A → List Flaw)
    (splits : (part : A) (more : List A) → all (part ∷ more) ≡ one part ++ all more)
    (parts : List A) (i : ℕ) (part : A) (within : i < length parts) (is : part ≡ get_or parts i part)
    (so_far : first_flaw (all (drop i parts)) ≡ first_flaw (all parts)) where
  at_part : first_flaw (one part ++ all (drop (i + 1) parts)) ≡ first_flaw (all parts)
  at_part = ap first_flaw (sym (splits part (drop (i + 1) parts))) ∙ ap (λ rest. first_flaw (all rest)) (sym (next_item parts i part within is)) ∙ so_far

  pub found_in_part : (result : Option IllFormed) (found : IllFormed) → IsFirstFlaw (one part) result → result ≡ Some found →
      Some (flaw_of found) ≡ first_flaw (all parts)
  found_in_part result found first some =
      sym (found_first (one part) (all (drop (i + 1) parts)) (flaw_of found) (ap found_flaw (sym some) ∙ first)) ∙ at_part

  pub found_behind_part : (result : Option IllFormed) → IsFirstFlaw (one part) result → result ≡ None →
      first_flaw (all (drop (i + 1) parts)) ≡ first_flaw (all parts)
  found_behind_part result first none =
      sym (found_second (one part) (all (drop (i + 1) parts)) (ap found_flaw (sym none) ∙ first)) ∙ at_part

pub none_found : (found : Option IllFormed) (flaws : List Flaw) → IsFirstFlaw flaws found → is_none found ≡ has_no_flaw flaws
none_found None [] first = refl
none_found None (flaw ∷ more) first = cc
none_found (Some found) [] first = cc
none_found (Some found) (flaw ∷ more) first = refl

-- WHAT IS TOLD

pub both_tell : {a b : Bool} (xs ys : List Flaw) → a ≡ has_no_flaw xs → b ≡ has_no_flaw ys → (a && b) ≡ has_no_flaw (xs ++ ys)
both_tell {a} {b} [] ys told told' = ap (λ x. x && b) told ∙ told'
both_tell {a} {b} (x ∷ xs) ys told told' = ap (λ x. x && b) told

pub unless_tells : (holds : Bool) (condition : SideCondition) (name : Option NameText) → holds ≡ has_no_flaw (flaw_unless holds condition name)
unless_tells true condition name = refl
unless_tells false condition name = refl

module _ {A : Type 0} {obeys : A → Bool} (flaws : A → List Flaw) where
  pub all_tell : TellsFlaws obeys flaws → TellsFlaws (list_all obeys) (flat_map flaws)
  all_tell tells [] = refl
  all_tell tells (part ∷ more) = both_tell (flaws part) (flat_map flaws more) (tells part) (all_tell tells more)

  pub optional_tells : TellsFlaws obeys flaws → TellsFlaws (optional_obeys obeys) (optional_flaws flaws)
  optional_tells tells None = refl
  optional_tells tells (Some part) = tells part
