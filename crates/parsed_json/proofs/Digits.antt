-- Numbers that are written by digits alone.
use Rattle.std.proofs.Common.{◌≡◌, ℕ, ◌+◌, ◌-◌, ◌*◌, ◌^◌, ◌<◌, ◌≤◌, ◌==◌, false, List, [], ◌∷◌, length, get_or, Some, refl, sym, ap, ◌∙◌, subst, arith}
use Rattle.std.proofs.Common.{append-nil}
use Rattle.std.proofs.Math.Nat.{pow-le-pow_right, pow-suc}
use Rattle.std.proofs.lemmas.Bool.{lt-ltb, ne_eqb}
use Rattle.std.proofs.lemmas.Float.Parse.{scan_numeral-text_of}
use Rattle.std.proofs.lemmas.Str.{digit_value_digit}
use Rattle.std.specs.Char.{digit_value}
use Rattle.std.specs.Float.Numeral.{Parts, IsWellFormed, scan_numeral, text_of}
use Rattle.std.specs.Str.Parse.{AllDigits, digits_value}
use Rattle.serde_json.specs.Data.{unsigned}
use Rattle.serde_json.specs.Read.{number_of, number_from}

-- ONE DIGIT MORE

pub digit_is : (c : ℕ) → 48 ≤ c → c ≤ 57 → (digit_value c ≡ c - 48) × (digit_value c < 10)
digit_is c low high =
    let same = digit_value_digit c (low, high) in
    (omega (arith, same), omega (arith, same))

pub ten_times : (i : ℕ) → 10 ^ (i + 1) ≡ 10 ^ i * 10
ten_times i = ap (λ j. 10 ^ j) (omega arith) ∙ pow-suc 10 i

pub few : (i : ℕ) → i < 19 → 10 ^ i ≤ 10 ^ 18
few i less =
    let ten : 0 < 10 = omega arith in
    let most : i ≤ 18 = omega (arith, less) in
    pow-le-pow_right ten most

-- ALL OF THEM

abbrev parts_of : List ℕ → Parts
parts_of digits = record { whole = digits; point = false; fraction = []; exponent_negative = false; exponent = []; len = length digits }

digits_are_parts : (digits : List ℕ) → AllDigits 10 digits → scan_numeral digits ≡ parts_of digits
digits_are_parts digits are =
    let whole : text_of (parts_of digits) ≡ digits = append-nil digits in
    let formed : IsWellFormed (parts_of digits) = record {
      whole_digits = are;
      fraction_digits = tt;
      exponent_digits = tt;
      no_point = λ _. refl;
      no_exponent = λ _. refl;
      len_is = ap length (sym whole);
    } in
    ap scan_numeral (sym whole) ∙ scan_numeral-text_of (parts_of digits) formed

no_sign : (digits : List ℕ) → AllDigits 10 digits → (get_or digits 0 0 == 45) ≡ false
no_sign [] are = refl
no_sign (c ∷ digits) are =
    ne_eqb c 45 (λ is. let sign : digit_value 45 < 10 = subst (λ d. digit_value d < 10) is are.0 in omega (arith, sign))

from_parts : (digits : List ℕ) → 0 < length digits → digits_value 10 digits < 2 ^ 64 →
    number_from false (parts_of digits) ≡ Some (unsigned (digits_value 10 digits))
from_parts digits some small = rw (append-nil digits, lt-ltb 0 (length digits) some, lt-ltb (digits_value 10 digits) (2 ^ 64) small) refl

pub digits_number : (digits : List ℕ) → AllDigits 10 digits → 0 < length digits → digits_value 10 digits < 2 ^ 64 →
    number_of digits ≡ Some (unsigned (digits_value 10 digits))
unfolding number_of
digits_number digits are some small = rw (no_sign digits are, digits_are_parts digits are) (from_parts digits some small)
