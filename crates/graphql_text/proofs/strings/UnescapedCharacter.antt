-- A character that has no escape stands for itself.
use Rattle.std.proofs.Common.{◌≡◌, ℕ, Bool, true, false, cond, not, ◌&&◌, ◌==◌, nat_lt, length, [], ◌∷◌, ◌++◌, codes, ◌/◌, ◌%◌, Option, Some, None, refl}
use Rattle.graphql_text.specs.strings.QuotedForm.{escape_letter, upper_hex_digit, written, quoted_character}

pub plain : (c : ℕ) → nat_lt 1 (length (quoted_character c)) ≡ false → quoted_character c ≡ c ∷ []
plain c = go (escape_letter c)
  where
    unlettered : (b : Bool) →
        nat_lt 1 (length (cond b (codes "\\u00" ++ (upper_hex_digit (c / 16) ∷ upper_hex_digit (c % 16) ∷ [])) (c ∷ []))) ≡ false →
        cond b (codes "\\u00" ++ (upper_hex_digit (c / 16) ∷ upper_hex_digit (c % 16) ∷ [])) (c ∷ []) ≡ c ∷ []
    unlettered true h = cc
    unlettered false h = refl

    go : (o : Option ℕ) → nat_lt 1 (length (written c o)) ≡ false → written c o ≡ c ∷ []
    go (Some letter) h = cc
    go None h = unlettered (nat_lt c 0x20 && not (c == 0x9)) h
