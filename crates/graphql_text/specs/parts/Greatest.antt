-- The greatest of the numbers that some parts have.
use Rattle.std.specs.Prelude.{ℕ, max, List, [], ◌∷◌}

-- Without a part it is 0.
abbrev pub greatest : {A : Type 0} → (A → ℕ) → List A → ℕ
greatest number [] = 0
greatest number (part ∷ more) = max (number part) (greatest number more)
