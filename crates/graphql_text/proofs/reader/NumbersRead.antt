-- The reader reads numbers.
use Rattle.std.proofs.Common.{◌≡◌, ℕ, ◌-◌, Bool, true, false, ◌==◌, List, [], ◌∷◌, ◌++◌, codes, refl, ap, ◌∙◌, inl, inr, append_assoc, ◌⊎◌}
use Rattle.std.proofs.Common.{Some, length, arith, length-append, take_at}
use Rattle.std.specs.Char.{is_ascii_digit}
use Rattle.graphql_text.specs.lexical.Characters.{follows_no_number}
use Rattle.graphql_base.specs.Names.{begins_in}
use Rattle.graphql_text.specs.lexical.Tokens.{IntValue, FloatValue}
use Rattle.graphql_text.proofs.lexical.NameAndNumberParts.{IsNatural, IsInt, IsDigits, IsFraction, IsExponent, IsFloat}
use Rattle.graphql_text.specs.lexical.Literals.{is_exponent_indicator, begins_float_part}
use Rattle.graphql_text.proofs.reader.TokenReader.{past_digits, past_natural, past_integer, past_fraction, past_signed, past_exponent}
use Rattle.graphql_text.proofs.reader.TokenReader.{before, number, number_at}
use Rattle.graphql_text.proofs.lexical.CharacterClasses
use Rattle.graphql_text.proofs.reader.IgnoredRead.{past-append}

-- what begins with no character of the larger class begins with none of the smaller one
pub begins_fewer : (larger smaller : ℕ → Bool) (text : List ℕ) →
    ((c : ℕ) → larger c ≡ false → smaller c ≡ false) → begins_in larger text ≡ false →
    begins_in smaller text ≡ false
begins_fewer larger smaller [] fewer h = refl
begins_fewer larger smaller (c ∷ cs) fewer h = fewer c h

pub is_point : ℕ → Bool
is_point c = c == 0x2E

past_digits-append : (digits after : List ℕ) → IsDigits digits →
    begins_in is_ascii_digit after ≡ false → past_digits (digits ++ after) ≡ Some after
past_digits-append digits after (c, cs, is, list_of) stops =
    rw is (rw (list_of.0) (ap Some (past-append is_ascii_digit cs after list_of.1 stops)))

past_natural-append : (digits after : List ℕ) → IsNatural digits →
    begins_in is_ascii_digit after ≡ false → past_natural (digits ++ after) ≡ Some after
past_natural-append digits after (inl is) stops = rw is refl
past_natural-append digits after (inr (c, cs, is, positive, list_of)) stops =
    rw is (rw (CharacterClasses.positive_not_zero c positive, CharacterClasses.positive_digit c positive)
    (ap Some (past-append is_ascii_digit cs after list_of stops)))

-- a natural number begins with a digit
natural_start : (digits : List ℕ) → IsNatural digits →
    (c : ℕ) × (cs : List ℕ) × (digits ≡ c ∷ cs) × (is_ascii_digit c ≡ true)
natural_start digits (inl is) = (0x30, [], is, refl)
natural_start digits (inr (c, cs, is, positive, list_of)) =
    (c, cs, is, CharacterClasses.positive_digit c positive)

-- an integer part begins with a digit or `-`
pub int_start : (text : List ℕ) → IsInt text →
    (c : ℕ) × (cs : List ℕ) × (text ≡ c ∷ cs) × (CharacterClasses.is_number_start c ≡ true)
int_start text (sign, digits, is, inl none, natural) =
    let (c, cs, starts, digit) = natural_start digits natural in
    (c, cs, is ∙ (ap (λ s. s ++ digits) none ∙ starts), rw digit refl)
int_start text (sign, digits, is, inr minus, natural) = (0x2D, digits, rw (is, minus) refl, refl)

past_unsigned : (digits after : List ℕ) → IsNatural digits →
    begins_in is_ascii_digit after ≡ false → past_integer (digits ++ after) ≡ Some after
past_unsigned digits after natural stops =
    let (c, cs, starts, digit) = natural_start digits natural in
    let reads = past_natural-append digits after natural stops in
    let at : past_natural (c ∷ (cs ++ after)) ≡ Some after = rw starts at reads in
    rw starts (rw (CharacterClasses.digit_not_minus c digit) at)

pub past_integer-append : (text after : List ℕ) → IsInt text →
    begins_in is_ascii_digit after ≡ false → past_integer (text ++ after) ≡ Some after
past_integer-append text after (sign, digits, is, inl none, natural) stops =
    rw (is, none) (past_unsigned digits after natural stops)
past_integer-append text after (sign, digits, is, inr minus, natural) stops =
    rw (is, minus) (past_natural-append digits after natural stops)

pub past_fraction-append : (text after : List ℕ) → IsFraction text →
    begins_in is_ascii_digit after ≡ false → past_fraction (text ++ after) ≡ Some after
past_fraction-append text after (digits, is, are) stops =
    rw is (past_digits-append digits after are stops)

pub past_no_fraction : (after : List ℕ) → begins_in (λ c. c == 0x2E) after ≡ false →
    past_fraction after ≡ Some after
past_no_fraction [] stops = refl
past_no_fraction (c ∷ cs) stops = rw stops refl

past_no_exponent : (after : List ℕ) → begins_in is_exponent_indicator after ≡ false →
    past_exponent after ≡ Some after
past_no_exponent [] stops = refl
past_no_exponent (c ∷ cs) stops = rw stops refl

past_unsigned_digits : (digits after : List ℕ) → IsDigits digits →
    begins_in is_ascii_digit after ≡ false → past_signed (digits ++ after) ≡ Some after
past_unsigned_digits digits after (c, cs, is, list_of) stops =
    rw is (rw (CharacterClasses.digit_not_sign c list_of.0, list_of.0) (ap Some (past-append is_ascii_digit cs after list_of.1 stops)))

past_signed-append : (sign digits after : List ℕ) →
    ((sign ≡ []) ⊎ ((sign ≡ codes "+") ⊎ (sign ≡ codes "-"))) → IsDigits digits →
    begins_in is_ascii_digit after ≡ false → past_signed ((sign ++ digits) ++ after) ≡ Some after
past_signed-append sign digits after (inl none) are stops =
    rw none (past_unsigned_digits digits after are stops)
past_signed-append sign digits after (inr (inl plus)) are stops =
    rw plus (past_digits-append digits after are stops)
past_signed-append sign digits after (inr (inr minus)) are stops =
    rw minus (past_digits-append digits after are stops)

pub past_exponent-append : (text after : List ℕ) → IsExponent text →
    begins_in is_ascii_digit after ≡ false → past_exponent (text ++ after) ≡ Some after
past_exponent-append text after (mark, sign, digits, is, inl small, signs, are) stops =
    rw (is, small) (past_signed-append sign digits after signs are stops)
past_exponent-append text after (mark, sign, digits, is, inr large, signs, are) stops =
    rw (is, large) (past_signed-append sign digits after signs are stops)

-- an exponent begins with its mark
pub exponent_start : (text after : List ℕ) → IsExponent text →
    (c : ℕ) × (cs : List ℕ) × (text ++ after ≡ c ∷ cs) × (is_exponent_indicator c ≡ true) × (is_ascii_digit c ≡ false) × ((c == 0x2E) ≡ false)
exponent_start text after (mark, sign, digits, is, inl small, signs, are) =
    (0x65, (sign ++ digits) ++ after, rw (is, small) refl, refl, refl, refl)
exponent_start text after (mark, sign, digits, is, inr large, signs, are) =
    (0x45, (sign ++ digits) ++ after, rw (is, large) refl, refl, refl, refl)

pub before-append : (text after : List ℕ) → before (text ++ after) after ≡ text
before-append text after =
    take_at text after (length (text ++ after) - length after) (omega (arith, length-append text after))

-- the three parts, one after another
number_parts : (text integer fraction rest : List ℕ) → past_integer text ≡ Some integer →
    past_fraction integer ≡ Some fraction → past_exponent fraction ≡ Some rest →
    number text ≡ number_at text integer rest
number_parts text integer fraction rest a b c = rw a (rw b (rw c refl))

pub int_complete : (text after : List ℕ) → IsInt text → begins_in follows_no_number after ≡ false →
    number (text ++ after) ≡ Some (IntValue text, after)
int_complete text after int stops =
    number_parts (text ++ after) after after after
    (past_integer-append text after int (begins_fewer follows_no_number is_ascii_digit after CharacterClasses.not_part_not_digit stops))
    (past_no_fraction after (begins_fewer follows_no_number (λ c. c == 0x2E) after CharacterClasses.not_part_not_point stops))
    (past_no_exponent after (begins_fewer follows_no_number is_exponent_indicator after CharacterClasses.not_part_not_exponent_mark stops))
    ∙ rw (stops, begins_fewer follows_no_number begins_float_part after CharacterClasses.not_part_not_float_mark stops, before-append text after) refl

float_from : (integer fraction exponent after : List ℕ) → IsInt integer →
    begins_in is_ascii_digit (fraction ++ (exponent ++ after)) ≡ false →
    begins_in begins_float_part (fraction ++ (exponent ++ after)) ≡ true →
    past_fraction (fraction ++ (exponent ++ after)) ≡ Some (exponent ++ after) →
    past_exponent (exponent ++ after) ≡ Some after → begins_in follows_no_number after ≡ false →
    number ((integer ++ (fraction ++ exponent)) ++ after) ≡ Some (FloatValue (integer ++ (fraction ++ exponent)), after)
float_from integer fraction exponent after int no_digit mark frac exp stops =
    let whole : (integer ++ (fraction ++ exponent)) ++ after ≡ integer ++ (fraction ++ (exponent ++ after)) =
    append_assoc integer (fraction ++ exponent) after ∙ ap (λ l. integer ++ l) (append_assoc fraction exponent after) in
    number_parts ((integer ++ (fraction ++ exponent)) ++ after) (fraction ++ (exponent ++ after)) (exponent ++ after) after
    (ap past_integer whole ∙ past_integer-append integer (fraction ++ (exponent ++ after)) int no_digit)
    frac exp
    ∙ rw (stops, mark, before-append (integer ++ (fraction ++ exponent)) after) refl

-- a fraction begins with its point
pub fraction_start : (text after : List ℕ) → IsFraction text →
    (cs : List ℕ) × (text ++ after ≡ 0x2E ∷ cs)
fraction_start text after (digits, is, are) = (digits ++ after, rw is refl)

pub float_complete : (text after : List ℕ) → IsFloat text →
    begins_in follows_no_number after ≡ false →
    number (text ++ after) ≡ Some (FloatValue text, after)
float_complete text after (integer, fraction, exponent, is, int, inl (frac, none)) stops =
    let no_digit = begins_fewer follows_no_number is_ascii_digit after CharacterClasses.not_part_not_digit stops in
    let (cs, starts) = fraction_start fraction (exponent ++ after) frac in
    rw is (float_from integer fraction exponent after int (rw starts refl) (rw starts refl)
    (past_fraction-append fraction (exponent ++ after) frac (rw none no_digit))
    (rw none (past_no_exponent after (begins_fewer follows_no_number is_exponent_indicator after CharacterClasses.not_part_not_exponent_mark stops)))
    stops)
float_complete text after (integer, fraction, exponent, is, int, inr (inl (none, exp))) stops =
    let no_digit = begins_fewer follows_no_number is_ascii_digit after CharacterClasses.not_part_not_digit stops in
    let (c, cs, starts, mark, not_digit, not_point) = exponent_start exponent after exp in
    rw is (float_from integer fraction exponent after int (rw (none, starts) not_digit) (rw (none, starts) (CharacterClasses.mark_either c mark))
    (rw none (past_no_fraction (exponent ++ after) (rw starts not_point)))
    (past_exponent-append exponent after exp no_digit)
    stops)
float_complete text after (integer, fraction, exponent, is, int, inr (inr (frac, exp))) stops =
    let no_digit = begins_fewer follows_no_number is_ascii_digit after CharacterClasses.not_part_not_digit stops in
    let (cs, starts) = fraction_start fraction (exponent ++ after) frac in
    let (e, es, starts_e, mark, not_digit, not_point) = exponent_start exponent after exp in
    rw is (float_from integer fraction exponent after int (rw starts refl) (rw starts refl)
    (past_fraction-append fraction (exponent ++ after) frac (rw starts_e not_digit))
    (past_exponent-append exponent after exp no_digit)
    stops)

pub float_start : (text : List ℕ) → IsFloat text →
    (c : ℕ) × (cs : List ℕ) × (text ≡ c ∷ cs) × (CharacterClasses.is_number_start c ≡ true)
float_start text (integer, fraction, exponent, is, int, parts) =
    let (c, cs, starts, start) = int_start integer int in
    (c, cs ++ (fraction ++ exponent), is ∙ ap (λ l. l ++ (fraction ++ exponent)) starts, start)
