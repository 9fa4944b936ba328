-- Names and numbers as a front and what follows it.
use Rattle.std.proofs.Common.{◌≡◌, ℕ, ◌⊎◌, true, List, [], ◌∷◌, ◌++◌, codes}
use Rattle.std.specs.Char.{is_ascii_digit}
use Rattle.std.specs.Int.{is_in_range}
use Rattle.graphql_base.specs.Names.{is_name_start, is_name_continue}
use Rattle.graphql_text.proofs.lexical.CharacterClasses.{Each}

abbrev pub IsName : List ℕ → Type 0
IsName text =
    (first : ℕ) × (others : List ℕ) × (text ≡ first ∷ others) × (is_name_start first ≡ true)
    × Each is_name_continue others

-- `0`, or digits of which the first isn't `0`
abbrev pub IsNatural : List ℕ → Type 0
IsNatural text =
    (text ≡ codes "0")
    ⊎ ((first : ℕ) × (others : List ℕ) × (text ≡ first ∷ others) × (is_in_range 0x31 0x39 first ≡ true) × Each is_ascii_digit others)

abbrev pub IsInt : List ℕ → Type 0
IsInt text =
    (sign : List ℕ) × (digits : List ℕ) × (text ≡ sign ++ digits)
    × ((sign ≡ []) ⊎ (sign ≡ codes "-")) × IsNatural digits

-- one digit or more
abbrev pub IsDigits : List ℕ → Type 0
IsDigits text =
    (first : ℕ) × (others : List ℕ) × (text ≡ first ∷ others) × Each is_ascii_digit (first ∷ others)

abbrev pub IsFraction : List ℕ → Type 0
IsFraction text = (digits : List ℕ) × (text ≡ codes "." ++ digits) × IsDigits digits

abbrev pub IsExponent : List ℕ → Type 0
IsExponent text =
    (mark : List ℕ) × (sign : List ℕ) × (digits : List ℕ) × (text ≡ mark ++ (sign ++ digits))
    × ((mark ≡ codes "e") ⊎ (mark ≡ codes "E"))
    × ((sign ≡ []) ⊎ ((sign ≡ codes "+") ⊎ (sign ≡ codes "-"))) × IsDigits digits

-- an integer part, and a fraction or an exponent or both
abbrev pub IsFloat : List ℕ → Type 0
IsFloat text =
    (integer : List ℕ) × (fraction : List ℕ) × (exponent : List ℕ)
    × (text ≡ integer ++ (fraction ++ exponent)) × IsInt integer
    × (IsFraction fraction × (exponent ≡ []) ⊎ ((fraction ≡ []) × IsExponent exponent ⊎ IsFraction fraction × IsExponent exponent))
