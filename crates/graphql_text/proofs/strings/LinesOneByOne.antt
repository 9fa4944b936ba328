-- Parts of a text, seen one by one.
use Rattle.std.proofs.Common.{◌≡◌, ℕ, Bool, true, false, not, ◌||◌, ◌&&◌, List, [], ◌∷◌, ◌++◌, append_assoc, refl, ap, ◌∙◌}
use Rattle.std.specs.List.{list_any, list_all}

pub not_any : (p : ℕ → Bool) (xs : List ℕ) → not (list_any p xs) ≡ list_all (λ c. not (p c)) xs
not_any p [] = refl
not_any p (x ∷ xs) = not_or (p x) (list_any p xs) ∙ ap (λ b. not (p x) && b) (not_any p xs)
  where
    not_or : (a b : Bool) → not (a || b) ≡ (not a && not b)
    not_or true b = refl
    not_or false b = refl

pub parts_joined : (q f b e : List ℕ) → ((q ++ f) ++ b) ++ e ≡ q ++ (f ++ (b ++ e))
parts_joined q f b e = simp append_assoc
