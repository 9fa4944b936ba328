-- Lists that are filtered hold no more than before.
use Rattle.std.proofs.Common.{ℕ, ◌+◌, ◌≤◌, List, [], ◌∷◌, length, Option, Some, None, arith}
use Rattle.std.specs.List.{cons_option, filter_map}

no_longer_with : {Y : Type 0} (found : Option Y) (ys : List Y) (n : ℕ) → length ys ≤ n → length (cons_option found ys) ≤ 1 + n
no_longer_with None ys n le = omega (arith, le)
no_longer_with (Some y) ys n le = omega (arith, le)

pub no_longer : {X Y : Type 0} (h : X → Option Y) (xs : List X) → length (filter_map h xs) ≤ length xs
no_longer h [] = omega arith
no_longer h (x ∷ xs) = omega (arith, no_longer_with (h x) (filter_map h xs) (length xs) (no_longer h xs))
