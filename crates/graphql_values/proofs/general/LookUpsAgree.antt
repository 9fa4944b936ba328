-- How the look-ups of a list agree.
use Rattle.std.proofs.Common.{◌≡◌, ◌≢◌, Bool, true, false, cond, ◌||◌, List, [], ◌∷◌, Some, filter, slice_get, refl}
use Rattle.std.specs.Bool.{Decides}
use Rattle.std.specs.List.{find, list_any}
use Rattle.graphql_values.proofs.comparisons.ValueEquality.{always, never}

module _ {X : Type 0} (test : X → Bool) where
  any_step : (x : X) (xs : List X) (b : Bool) → Decides (list_any test xs) (filter test xs ≢ []) →
      Decides (b || list_any test xs) (cond b (x ∷ filter test xs) (filter test xs) ≢ [])
  any_step x xs true d = always (λ e. cc)
  any_step x xs false d = d

  pub any_is_some_filtered : (xs : List X) → Decides (list_any test xs) (filter test xs ≢ [])
  any_is_some_filtered [] = never (λ some. some refl)
  any_is_some_filtered (x ∷ xs) = any_step x xs (test x) (any_is_some_filtered xs)

  find_step : (x : X) (xs : List X) (b : Bool) → find test xs ≡ slice_get (filter test xs) 0 →
      cond b (Some x) (find test xs) ≡ slice_get (cond b (x ∷ filter test xs) (filter test xs)) 0
  find_step x xs true e = refl
  find_step x xs false e = e

  pub find_is_first_filtered : (xs : List X) → find test xs ≡ slice_get (filter test xs) 0
  find_is_first_filtered [] = refl
  find_is_first_filtered (x ∷ xs) = find_step x xs (test x) (find_is_first_filtered xs)
