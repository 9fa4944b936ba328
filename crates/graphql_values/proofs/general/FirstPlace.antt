-- The first index at which a test passes, or the length.
use Rattle.std.proofs.Common.{arith, ◌≡◌, ℕ, ◌≤◌, Bool, true, false, cond, List, [], ◌∷◌, length, Some, None, refl, sym, ap, ◌∙◌, ltb, not, ◌+◌}
use Rattle.std.specs.List.{position_from, position_or_len, prefix_len}
use Rattle.std.specs.Option.{unwrap_or}
use Rattle.std.proofs.lemmas.Iterator.Adapters.{position_from-zero}

module _ {X : Type 0} (test : X → Bool) where
  longer : (b : Bool) (k n : ℕ) → k ≤ n → cond b (1 + k) 0 ≤ 1 + n
  longer true k n le = omega arith
  longer false k n le = omega arith

  prefix_le : (xs : List X) → prefix_len test xs ≤ length xs
  prefix_le [] = omega arith
  prefix_le (x ∷ xs) = omega (arith, longer (test x) (prefix_len test xs) (length xs) (prefix_le xs))

place_by : (b : Bool) (k n : ℕ) → ltb k n ≡ b → k ≤ n → unwrap_or (cond b (Some k) None) n ≡ k
place_by true k n less le = refl
place_by false k n less le = grind (arith, less)

pub place_le : {X : Type 0} (test : X → Bool) (xs : List X) → position_or_len test xs ≤ length xs
place_le test xs = prefix_le (λ x. not (test x)) xs

pub place_is : {X : Type 0} (test : X → Bool) (xs : List X) → unwrap_or (position_from test 0 xs) (length xs) ≡ position_or_len test xs
place_is test xs =
    ap (λ found. unwrap_or found (length xs)) (sym (position_from-zero test xs))
    ∙ place_by (ltb (position_or_len test xs) (length xs)) (position_or_len test xs) (length xs) refl (place_le test xs)
