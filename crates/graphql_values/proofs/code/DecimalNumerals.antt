-- An integer literal is a numeral after at most one sign, and the decimal text of a number is an integer literal.
use Rattle.std.proofs.Common.{arith, rules, ◌≡◌, ℕ, ℤ, pos, negsuc, neg_ℤ, suc, zero, ◌<◌, ◌^◌, Bool, true, false, cond, ◌==◌, ◌&&◌, ◌||◌}
use Rattle.std.proofs.Common.{List, [], ◌∷◌, drop, length, get_or, refl, sym, ap, ◌∙◌, true≢false, nat_eq, ◌⊎◌, inl, inr}
use Rattle.std.specs.Char.{is_ascii_digit}
use Rattle.std.specs.Cmp.{first_so, second_so}
use Rattle.std.specs.Cmp.Lexicographic.{pointwise}
use Rattle.std.specs.Fmt.{decimal, signed_decimal}
use Rattle.std.specs.Int.{is_in_range}
use Rattle.std.specs.List.{list_all}
use Rattle.std.specs.Str.Parse.{digits_value, signed_digits_value, IsNumeral, without_leading_sign}
use Rattle.std.proofs.lemmas.Fmt.{digits_decimal, digits_value-decimal, decimal_nonempty, decimal_digit, first_decimal}
use Rattle.std.proofs.lemmas.Str.Parse.{IsNumeralModel, numerals_by_value}
use lib.Signed.{mag}
use Rattle.graphql_text.specs.lexical.Literals.{is_natural, is_int}

abbrev AreDigits : List ℕ → Type 0
AreDigits ds = list_all is_ascii_digit ds ≡ true

false_true : {X : Type 0} → false ≡ true → X
false_true e = absurd (true≢false (sym e))

own : IsNumeralModel AreDigits (digits_value 10)
own = numerals_by_value _ (search rules)

-- A NATURAL NUMBER IS DIGITS, AND DIGITS THAT DON'T BEGIN WITH 0 ARE ONE

or_cases : (a b : Bool) → (a || b) ≡ true → (a ≡ true) ⊎ (b ≡ true)
or_cases true b e = inl refl
or_cases false b e = inr e

zero_is_digit : (c : ℕ) → (c == 0x30) ≡ true → is_ascii_digit c ≡ true
zero_is_digit c e = search (rules, arith)

zero_digits : (c : ℕ) (cs : List ℕ) → ((c == 0x30) && pointwise nat_eq cs []) ≡ true → AreDigits (c ∷ cs)
zero_digits c [] e = rw (zero_is_digit c (first_so (c == 0x30) true e)) refl
zero_digits c (d ∷ ds) e = false_true (second_so (c == 0x30) false e)

pub natural_digits : (ds : List ℕ) → is_natural ds ≡ true → AreDigits ds
natural_digits [] e = refl
natural_digits (c ∷ cs) e =
    elim (or_cases ((c == 0x30) && pointwise nat_eq cs []) (is_in_range 0x31 0x39 c && list_all is_ascii_digit (c ∷ cs)) e) [
      | inl nought ↦ zero_digits c cs nought
      | inr more ↦ second_so (is_in_range 0x31 0x39 c) (list_all is_ascii_digit (c ∷ cs)) more
    ]

natural_length : (ds : List ℕ) → is_natural ds ≡ true → 0 < length ds
natural_length [] e = false_true e
natural_length (c ∷ cs) e = omega arith

natural_numeral : (ds : List ℕ) → is_natural ds ≡ true → IsNumeral 10 ds
natural_numeral ds e = (natural_length ds e, own.to ds (natural_digits ds e))

no_plus : (c : ℕ) (cs : List ℕ) → AreDigits (c ∷ cs) → (c == 43) ≡ false
no_plus c cs e = search (rules, arith)

no_minus : (c : ℕ) (cs : List ℕ) → AreDigits (c ∷ cs) → (c == 45) ≡ false
no_minus c cs e = search (rules, arith)

int_by : (b : Bool) (c : ℕ) (cs : List ℕ) → is_natural (cond b cs (c ∷ cs)) ≡ true → IsNumeral 10 (cond b cs (drop (cond (c == 43) 1 0) (c ∷ cs)))
int_by true c cs e = natural_numeral cs e
int_by false c cs e = rw (no_plus c cs (natural_digits (c ∷ cs) e)) (natural_numeral (c ∷ cs) e)

pub int_numeral : (text : List ℕ) → is_int text ≡ true → IsNumeral 10 (without_leading_sign text)
int_numeral [] e = false_true e
int_numeral (c ∷ cs) e = int_by (c == 45) c cs e

-- THE DECIMAL TEXT OF A NUMBER

first_range : (c : ℕ) → is_ascii_digit c ≡ true → 48 < c → is_in_range 0x31 0x39 c ≡ true
first_range c e l = search (rules, arith)

or_second : (a b : Bool) → b ≡ true → (a || b) ≡ true
or_second true b e = refl
or_second false b e = e

natural_from : (ds : List ℕ) → AreDigits ds → 48 < get_or ds 0 0 → is_natural ds ≡ true
natural_from [] e l = absurd (omega arith)
natural_from (c ∷ cs) e l =
    or_second ((c == 0x30) && pointwise nat_eq cs []) (is_in_range 0x31 0x39 c && list_all is_ascii_digit (c ∷ cs))
    (rw (first_range c (first_so (is_ascii_digit c) (list_all is_ascii_digit cs) e) l) e)

decimal_natural : (n : ℕ) → n < 2 ^ 64 → is_natural (decimal n) ≡ true
decimal_natural zero h = rw (decimal_digit 0 (omega arith)) refl
decimal_natural (suc n) h = natural_from (decimal (suc n)) (digits_decimal own (suc n) h) (first_decimal (suc n) (omega arith) h)

unsigned_int : (ds : List ℕ) → is_natural ds ≡ true → is_int ds ≡ true
unsigned_int [] e = e
unsigned_int (c ∷ cs) e = rw (no_minus c cs (natural_digits (c ∷ cs) e)) e

pub decimal_int : (z : ℤ) → mag z < 2 ^ 63 → is_int (signed_decimal z) ≡ true
decimal_int (pos n) h = unsigned_int (decimal n) (decimal_natural n (omega arith))
decimal_int (negsuc n) h = decimal_natural (suc n) (omega arith)

digits_number : (ds : List ℕ) → AreDigits ds → 0 < length ds → signed_digits_value 10 ds ≡ pos (digits_value 10 ds)
digits_number [] e l = absurd (omega arith)
digits_number (c ∷ cs) e l = rw (no_minus c cs e, no_plus c cs e) refl

-- the decimal text of a number writes that number
pub decimal_number : (z : ℤ) → mag z < 2 ^ 63 → signed_digits_value 10 (signed_decimal z) ≡ z
decimal_number (pos n) h =
    digits_number (decimal n) (digits_decimal own n (omega arith)) (decimal_nonempty n (omega arith))
    ∙ ap pos (digits_value-decimal own n (omega arith))
decimal_number (negsuc n) h = ap (λ m. neg_ℤ (pos m)) (digits_value-decimal own (suc n) (omega arith))
