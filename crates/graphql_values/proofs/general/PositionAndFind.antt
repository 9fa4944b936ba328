-- What stands at the index that `position` answers, and whether `find` finds anything.
use Rattle.std.proofs.Common.{◌≡◌, ℕ, suc, ◌+◌, ◌<◌, ◌≤◌, Bool, true, false, cond, not, ◌||◌, List, [], ◌∷◌, length, Bor, Option, Some}
use Rattle.std.proofs.Common.{None, position, slice_set, slice_index_or, nat_lt, refl, sym, ap, ◌∙◌, arith}
use Rattle.std.specs.List.{find, list_any, position_or_len, HoldsAt}
use Rattle.std.specs.Option.{is_some, option_copied, option_map}
use Rattle.std.proofs.lemmas.Bool.Decides.{nat_tests}
use Rattle.std.proofs.lemmas.List.Folds.{find_at}
use Rattle.std.proofs.lemmas.Option.{slice_get-get_or, slice_get_past}
use Rattle.graphql_values.specs.code.Loans.{first_changed}

some_first : (n m place : ℕ) → cond (nat_lt n m) (Some n) None ≡ Some place → (n < m) × (n ≡ place)
some_first n m place e = grind (arith, nat_tests)

none_first : (n m : ℕ) → cond (nat_lt n m) (Some n) None ≡ None → m ≤ n
none_first n m e = grind (arith, nat_tests)

module _ {X : Type 0} (test : X → Bool) where
  pub found_at_position : (xs : List X) (place : ℕ) → position test xs ≡ Some place → HoldsAt (λ x. find test xs ≡ Some x) xs place
  found_at_position xs place e d =
      let first = some_first (position_or_len test xs) (length xs) place e in
      find_at test xs ∙ slice_get-get_or xs (position_or_len test xs) d first.0 ∙ ap (λ k. Some (slice_index_or xs k d)) first.1

  pub not_found : (xs : List X) → position test xs ≡ None → find test xs ≡ None
  not_found xs e = find_at test xs ∙ slice_get_past xs (position_or_len test xs) (none_first (position_or_len test xs) (length xs) e)

  pub is_found : (xs : List X) (place : ℕ) → position test xs ≡ Some place → find test xs ≡ None → ⊥
  is_found [] place e none = absurd cc
  is_found (x ∷ xs) place e none =
      let found = found_at_position (x ∷ xs) place e x in
      cc

  some_or : (x : X) (found : Option X) (b any : Bool) → is_some found ≡ any → is_some (cond b (Some x) found) ≡ (b || any)
  some_or x found true any e = refl
  some_or x found false any e = e

  -- an item is found exactly if any passes
  found_if_any : (xs : List X) → is_some (find test xs) ≡ list_any test xs
  found_if_any [] = refl
  found_if_any (x ∷ xs) = some_or x (find test xs) (test x) (list_any test xs) (found_if_any xs)

  -- so of what is found and lent
  pub copied_if_any : (found : Option (Bor X)) (xs : List X) → option_copied found ≡ find test xs → is_some found ≡ list_any test xs
  copied_if_any None xs e = ap is_some e ∙ found_if_any xs
  copied_if_any (Some x) xs e = ap is_some e ∙ found_if_any xs

  -- what is read at the index of `position` is read of the first item that passes
  pub read_at_position : {Y : Type 0} (f : X → Y) (xs : List X) (place : ℕ) (y : Y) → position test xs ≡ Some place →
      HoldsAt (λ x. y ≡ f x) xs place → option_map f (find test xs) ≡ Some y
  read_at_position f [] place y e h = absurd cc
  read_at_position f (x ∷ xs) place y e h = ap (option_map f) (found_at_position (x ∷ xs) place e x) ∙ sym (ap Some (h x))

  module _ (change : X → X) where
    step : (x : X) (xs : List X) (d : X) (b : Bool) →
        slice_set xs (position_or_len test xs) (change (slice_index_or xs (position_or_len test xs) d)) ≡ first_changed test change xs →
        slice_set (x ∷ xs) (cond (not b) (1 + position_or_len test xs) 0)
        (change (slice_index_or (x ∷ xs) (cond (not b) (1 + position_or_len test xs) 0) d))
        ≡ cond b (change x ∷ xs) (x ∷ first_changed test change xs)
    step x xs d true e = refl
    step x xs d false e =
        let next : 1 + position_or_len test xs ≡ suc (position_or_len test xs) = omega arith in
        ap (λ k. slice_set (x ∷ xs) k (change (slice_index_or (x ∷ xs) k d))) next ∙ ap (λ ys. x ∷ ys) e

    changed_at : (xs : List X) (d : X) →
        slice_set xs (position_or_len test xs) (change (slice_index_or xs (position_or_len test xs) d)) ≡ first_changed test change xs
    changed_at [] d = refl
    changed_at (x ∷ xs) d = step x xs d (test x) (changed_at xs d)

    -- a list that is changed at the index of `position` is changed at the first item that passes
    pub changed_at_position : (xs ys : List X) (place : ℕ) → position test xs ≡ Some place →
        HoldsAt (λ x. ys ≡ slice_set xs place (change x)) xs place → ys ≡ first_changed test change xs
    changed_at_position [] ys place e h = absurd cc
    changed_at_position (x ∷ xs) ys place e h =
        let first = some_first (position_or_len test (x ∷ xs)) (length (x ∷ xs)) place e in
        h x ∙ sym (ap (λ k. slice_set (x ∷ xs) k (change (slice_index_or (x ∷ xs) k x))) first.1) ∙ changed_at (x ∷ xs) x
