-- A byte that has no escape stands for itself.
use Rattle.std.proofs.Common.{◌≡◌, ℕ, Bool, true, false, cond, nat_lt, length, [], ◌∷◌, ◌/◌, ◌%◌, refl}
use Rattle.std.specs.Char.{digit_char}
use Rattle.json.specs.Print.{escape_byte, escape_letter}

pub plain : (c : ℕ) → nat_lt 1 (length (escape_byte c)) ≡ false → escape_byte c ≡ c ∷ []
unfolding escape_byte
plain c = go (nat_lt 0 (escape_letter c)) (nat_lt c 32)
  where
    go : (a b : Bool) →
        nat_lt 1 (length (cond a (92 ∷ escape_letter c ∷ []) (cond b (92 ∷ 117 ∷ 48 ∷ 48 ∷ digit_char (c / 16) ∷ digit_char (c % 16) ∷ []) (c ∷ [])))) ≡ false →
        cond a (92 ∷ escape_letter c ∷ []) (cond b (92 ∷ 117 ∷ 48 ∷ 48 ∷ digit_char (c / 16) ∷ digit_char (c % 16) ∷ []) (c ∷ [])) ≡ c ∷ []
    go true b h = cc
    go false true h = cc
    go false false h = refl
