-- A text passes the test of a name, an int or a float exactly if it is one by its parts.
use Rattle.std.proofs.Common.{◌≡◌, ℕ, Bool, true, false, ◌&&◌, ◌||◌, ◌==◌, ◌⊎◌, inl, inr, List, [], ◌∷◌, ◌++◌, codes, nat_eq, length, take}
use Rattle.std.proofs.Common.{drop, refl, ap, sym, subst, ◌∙◌, append-nil, arith, eqb-true}
use Rattle.std.proofs.Math.Seq.{take-append_seam, drop-append_seam}
use Rattle.std.proofs.lemmas.Bool.Decides.{nat_tests}
use Rattle.std.proofs.lemmas.List.{take-append-drop}
use Rattle.std.proofs.lemmas.Slice.Eq.{bytes_eq-Decides}
use Rattle.std.specs.Char.{is_ascii_digit}
use Rattle.std.specs.Cmp.Lexicographic.{pointwise}
use Rattle.std.specs.Int.{is_in_range}
use Rattle.std.specs.List.{list_all, position_or_len, AllByRecursion}
use Rattle.graphql_base.specs.Names.{is_name, begins_in}
use Rattle.graphql_text.specs.lexical.Literals.{after_optional, is_cut_before, is_digits, is_natural, is_negative_sign, is_int, is_fraction}
use Rattle.graphql_text.specs.lexical.Literals.{is_exponent_indicator, is_sign, is_exponent, begins_float_part, is_float_part, is_float}
use Rattle.graphql_text.proofs.lexical.CharacterClasses.{Each, list_all_each, each_list_all, digit_not_minus, digit_not_sign, positive_digit}
use Rattle.std.proofs.lemmas.Bool.{and_parts, and_from, or_cases, or_left, or_right}
use Rattle.graphql_text.proofs.lexical.NameDecided.{name_decided}
use Rattle.graphql_text.proofs.lexical.NameAndNumberParts.{IsName, IsNatural, IsInt, IsDigits, IsFraction, IsExponent, IsFloat}

-- What passes is made of the parts.

pub name_valid : (text : List ℕ) → is_name text ≡ true → IsName text
name_valid text h = let d = name_decided text in d.0 h

digits_valid : (text : List ℕ) → is_digits text ≡ true → IsDigits text
digits_valid [] h = cc
digits_valid (c ∷ cs) h =
    let (first, all) = and_parts (is_ascii_digit c) (list_all is_ascii_digit (c ∷ cs)) h in
    (c, cs, refl, list_all_each is_ascii_digit (c ∷ cs) all)

natural_from : (text : List ℕ) →
    (begins_in (is_in_range 0x31 0x39) text && list_all is_ascii_digit text) ≡ true → IsNatural text
natural_from [] h = cc
natural_from (c ∷ cs) h =
    let (first, all) = and_parts (is_in_range 0x31 0x39 c) (list_all is_ascii_digit (c ∷ cs)) h in
    let digits = list_all_each is_ascii_digit (c ∷ cs) all in
    inr (c, cs, refl, first, digits.1)

natural_valid : (text : List ℕ) → is_natural text ≡ true → IsNatural text
natural_valid text h =
    go (or_cases (pointwise nat_eq text (codes "0")) (begins_in (is_in_range 0x31 0x39) text && list_all is_ascii_digit text) h)
  where
    go :
        (pointwise nat_eq text (codes "0") ≡ true) ⊎ ((begins_in (is_in_range 0x31 0x39) text && list_all is_ascii_digit text) ≡ true) →
        IsNatural text
    go (inl zero) = let d = bytes_eq-Decides text (codes "0") in inl (d.0 zero)
    go (inr more) = natural_from text more

pub int_valid : (text : List ℕ) → is_int text ≡ true → IsInt text
int_valid [] h = cc
int_valid (c ∷ cs) h = go (is_negative_sign c) refl h
  where
    go : (b : Bool) → is_negative_sign c ≡ b → is_int (c ∷ cs) ≡ true → IsInt (c ∷ cs)
    go true minus h =
        (codes "-", cs, ap (λ x. x ∷ cs) (eqb-true c 0x2D minus), inr refl, natural_valid cs (rw minus at h))
    go false minus h = ([], c ∷ cs, refl, inl refl, natural_valid (c ∷ cs) (rw minus at h))

fraction_valid : (text : List ℕ) → is_fraction text ≡ true → IsFraction text
fraction_valid [] h = cc
fraction_valid (c ∷ cs) h =
    let (point, digits) = and_parts (c == 0x2E) (is_digits cs) h in
    (cs, ap (λ x. x ∷ cs) (eqb-true c 0x2E point), digits_valid cs digits)

signed_valid : (text : List ℕ) → is_digits (after_optional is_sign text) ≡ true →
    (sign : List ℕ) × (digits : List ℕ) × (text ≡ sign ++ digits) × ((sign ≡ []) ⊎ ((sign ≡ codes "+") ⊎ (sign ≡ codes "-"))) × IsDigits digits
signed_valid [] h = cc
signed_valid (c ∷ cs) h = go (is_sign c) refl h
  where
    sign_of : (c == 0x2B) ≡ true ⊎ (c == 0x2D) ≡ true →
        (c ∷ [] ≡ []) ⊎ ((c ∷ [] ≡ codes "+") ⊎ (c ∷ [] ≡ codes "-"))
    sign_of (inl plus) = inr (inl (ap (λ x. x ∷ []) (eqb-true c 0x2B plus)))
    sign_of (inr minus) = inr (inr (ap (λ x. x ∷ []) (eqb-true c 0x2D minus)))

    go : (b : Bool) → is_sign c ≡ b → is_digits (after_optional is_sign (c ∷ cs)) ≡ true →
        (sign : List ℕ) × (digits : List ℕ) × (c ∷ cs ≡ sign ++ digits) × ((sign ≡ []) ⊎ ((sign ≡ codes "+") ⊎ (sign ≡ codes "-"))) × IsDigits digits
    go true signs h =
        (c ∷ [], cs, refl, sign_of (or_cases (c == 0x2B) (c == 0x2D) signs), digits_valid cs (rw signs at h))
    go false signs h = ([], c ∷ cs, refl, inl refl, digits_valid (c ∷ cs) (rw signs at h))

exponent_valid : (text : List ℕ) → is_exponent text ≡ true → IsExponent text
exponent_valid [] h = cc
exponent_valid (c ∷ cs) h =
    let (indicator, more) = and_parts (is_exponent_indicator c) (is_digits (after_optional is_sign cs)) h in
    let (sign, digits, is, signs, are) = signed_valid cs more in
    (c ∷ [], sign, digits, ap (λ l. c ∷ l) is, indicator_of (or_cases (c == 0x65) (c == 0x45) indicator), signs, are)
  where
    indicator_of : (c == 0x65) ≡ true ⊎ (c == 0x45) ≡ true →
        (c ∷ [] ≡ codes "e") ⊎ (c ∷ [] ≡ codes "E")
    indicator_of (inl small) = inl (ap (λ x. x ∷ []) (eqb-true c 0x65 small))
    indicator_of (inr large) = inr (ap (λ x. x ∷ []) (eqb-true c 0x45 large))

-- a text that is cut, and its parts
cut_valid : (class : ℕ → Bool) (first second : List ℕ → Bool) (text : List ℕ) →
    is_cut_before class first second text ≡ true →
    (front : List ℕ) × (rest : List ℕ) × (text ≡ front ++ rest) × (first front ≡ true) × (second rest ≡ true)
cut_valid class first second text h =
    let place : ℕ = position_or_len class text in
    let (one, two) = and_parts (first (take place text)) (second (drop place text)) h in
    (take place text, drop place text, sym (take-append-drop place text), one, two)

abbrev FloatPart : List ℕ → Type 0
FloatPart text = (fraction : List ℕ) × (exponent : List ℕ) × (text ≡ fraction ++ exponent) ×
    (IsFraction fraction × (exponent ≡ []) ⊎ ((fraction ≡ []) × IsExponent exponent ⊎ IsFraction fraction × IsExponent exponent))

float_part_valid : (text : List ℕ) → is_float_part text ≡ true → FloatPart text
float_part_valid text h =
    go (or_cases (is_fraction text || is_exponent text) (is_cut_before is_exponent_indicator is_fraction is_exponent text) h)
  where
    one : (is_fraction text ≡ true) ⊎ (is_exponent text ≡ true) → FloatPart text
    one (inl fraction) = (text, [], sym (append-nil text), inl (fraction_valid text fraction, refl))
    one (inr exponent) = ([], text, refl, inr (inl (refl, exponent_valid text exponent)))

    go :
        ((is_fraction text || is_exponent text) ≡ true) ⊎ (is_cut_before is_exponent_indicator is_fraction is_exponent text ≡ true) →
        FloatPart text
    go (inl either) = one (or_cases (is_fraction text) (is_exponent text) either)
    go (inr cut) =
        let (front, rest, is, fraction, exponent) = cut_valid is_exponent_indicator is_fraction is_exponent text cut in
        (front, rest, is, inr (inr (fraction_valid front fraction, exponent_valid rest exponent)))

pub float_valid : (text : List ℕ) → is_float text ≡ true → IsFloat text
float_valid text h =
    let (front, rest, is, int, more) = cut_valid begins_float_part is_int is_float_part text h in
    let (fraction, exponent, cut, parts) = float_part_valid rest more in
    (front, fraction, exponent, is ∙ ap (λ l. front ++ l) cut, int_valid front int, parts)

-- What is made of the parts passes.

pub name_passes : (text : List ℕ) → IsName text → is_name text ≡ true
name_passes text name = let d = name_decided text in d.1 name

digits_pass : (text : List ℕ) → IsDigits text → is_digits text ≡ true
digits_pass text (c, cs, is, are) =
    rw is (and_from (is_ascii_digit c) (list_all is_ascii_digit (c ∷ cs)) are.0 (each_list_all is_ascii_digit (c ∷ cs) are))

natural_passes : (text : List ℕ) → IsNatural text → is_natural text ≡ true
natural_passes text (inl is) = rw is refl
natural_passes text (inr (c, cs, is, first, are)) =
    rw is (or_right (pointwise nat_eq (c ∷ cs) (codes "0")) (is_in_range 0x31 0x39 c && list_all is_ascii_digit (c ∷ cs))
    (and_from (is_in_range 0x31 0x39 c) (list_all is_ascii_digit (c ∷ cs)) first (each_list_all is_ascii_digit (c ∷ cs) (positive_digit c first, are))))

pub int_passes : (text : List ℕ) → IsInt text → is_int text ≡ true
int_passes text (sign, digits, is, inr minus, natural) =
    rw (is, minus) (natural_passes digits natural)
int_passes text (sign, digits, is, inl none, natural) =
    rw (is, none) (unsigned digits natural (natural_passes digits natural))
  where
    unsigned : (digits : List ℕ) → IsNatural digits → is_natural digits ≡ true →
        is_int digits ≡ true
    unsigned digits (inl zero) h = rw zero refl
    unsigned digits (inr (c, cs, starts, first, are)) h =
        let at : is_natural (c ∷ cs) ≡ true = rw starts at h in
        rw starts (rw (digit_not_minus c (positive_digit c first)) at)

fraction_passes : (text : List ℕ) → IsFraction text → is_fraction text ≡ true
fraction_passes text (digits, is, are) = rw is (digits_pass digits are)

signed_passes : (sign digits : List ℕ) → ((sign ≡ []) ⊎ ((sign ≡ codes "+") ⊎ (sign ≡ codes "-"))) →
    IsDigits digits → is_digits (after_optional is_sign (sign ++ digits)) ≡ true
signed_passes sign digits (inl none) (c, cs, starts, are) =
    rw (none, starts) (rw (digit_not_sign c are.0) (digits_pass (c ∷ cs) (c, cs, refl, are)))
signed_passes sign digits (inr (inl plus)) are = rw plus (digits_pass digits are)
signed_passes sign digits (inr (inr minus)) are = rw minus (digits_pass digits are)

exponent_passes : (text : List ℕ) → IsExponent text → is_exponent text ≡ true
exponent_passes text (mark, sign, digits, is, inl small, signs, are) =
    rw (is, small) (signed_passes sign digits signs are)
exponent_passes text (mark, sign, digits, is, inr large, signs, are) =
    rw (is, large) (signed_passes sign digits signs are)

-- no character of the text is of the class
abbrev Lacks : (ℕ → Bool) → List ℕ → Type 0
Lacks class text = AllByRecursion (λ c. class c ≡ false) text

place_of : (class : ℕ → Bool) (front rest : List ℕ) → Lacks class front →
    begins_in class rest ≡ true → position_or_len class (front ++ rest) ≡ length front
place_of class [] [] lacks begins = cc
place_of class [] (c ∷ cs) lacks begins = rw begins refl
place_of class (c ∷ front) rest lacks begins =
    rw lacks.0 (omega (arith, place_of class front rest lacks.1 begins))

cut_passes : (class : ℕ → Bool) (first second : List ℕ → Bool) (front rest : List ℕ) →
    Lacks class front → begins_in class rest ≡ true → first front ≡ true → second rest ≡ true →
    is_cut_before class first second (front ++ rest) ≡ true
cut_passes class first second front rest lacks begins one two =
    let place = place_of class front rest lacks begins in
    and_from _ _
    (ap (λ n. first (take n (front ++ rest))) place ∙ ap first (take-append_seam front rest) ∙ one)
    (ap (λ n. second (drop n (front ++ rest))) place ∙ ap second (drop-append_seam front rest) ∙ two)

digit_begins_no_part : (c : ℕ) → is_ascii_digit c ≡ true → begins_float_part c ≡ false
digit_begins_no_part c h = grind (arith, nat_tests)

digit_no_indicator : (c : ℕ) → is_ascii_digit c ≡ true → is_exponent_indicator c ≡ false
digit_no_indicator c h = grind (arith, nat_tests)

digits_lack : (class : ℕ → Bool) (text : List ℕ) →
    ((c : ℕ) → is_ascii_digit c ≡ true → class c ≡ false) → Each is_ascii_digit text →
    Lacks class text
digits_lack class [] apart are = tt
digits_lack class (c ∷ cs) apart are = (apart c are.0, digits_lack class cs apart are.1)

natural_lacks : (text : List ℕ) → IsNatural text → Lacks begins_float_part text
natural_lacks text (inl zero) = rw zero (refl, tt)
natural_lacks text (inr (c, cs, is, first, are)) =
    rw is (digits_lack begins_float_part (c ∷ cs) digit_begins_no_part (positive_digit c first, are))

int_lacks : (text : List ℕ) → IsInt text → Lacks begins_float_part text
int_lacks text (sign, digits, is, inl none, natural) = rw (is, none) (natural_lacks digits natural)
int_lacks text (sign, digits, is, inr minus, natural) =
    rw (is, minus) (refl, natural_lacks digits natural)

fraction_lacks : (text : List ℕ) → IsFraction text → Lacks is_exponent_indicator text
fraction_lacks text (digits, is, (c, cs, starts, are)) =
    rw (is, starts) (refl, digits_lack is_exponent_indicator (c ∷ cs) digit_no_indicator are)

exponent_begins : (text : List ℕ) → IsExponent text →
    (begins_in is_exponent_indicator text ≡ true) × (begins_in begins_float_part text ≡ true)
exponent_begins text (mark, sign, digits, is, inl small, signs, are) = rw (is, small) (refl, refl)
exponent_begins text (mark, sign, digits, is, inr large, signs, are) = rw (is, large) (refl, refl)

float_from : (integer part : List ℕ) → IsInt integer → begins_in begins_float_part part ≡ true →
    is_float_part part ≡ true → is_float (integer ++ part) ≡ true
float_from integer part int begins passes =
    cut_passes begins_float_part is_int is_float_part integer part (int_lacks integer int) begins (int_passes integer int) passes

fraction_begins : (text rest : List ℕ) → IsFraction text →
    begins_in begins_float_part (text ++ rest) ≡ true
fraction_begins text rest (digits, is, are) = rw is refl

pub float_passes : (text : List ℕ) → IsFloat text → is_float text ≡ true
float_passes text (integer, fraction, exponent, is, int, inl (frac, none)) =
    rw (is, none, append-nil fraction) (float_from integer fraction int
    (subst (λ l. begins_in begins_float_part l ≡ true) (append-nil fraction) (fraction_begins fraction [] frac))
    (or_left (is_fraction fraction || is_exponent fraction) (is_cut_before is_exponent_indicator is_fraction is_exponent fraction)
    (or_left (is_fraction fraction) (is_exponent fraction) (fraction_passes fraction frac))))
float_passes text (integer, fraction, exponent, is, int, inr (inl (none, exp))) =
    rw (is, none) (float_from integer exponent int (exponent_begins exponent exp).1
    (or_left (is_fraction exponent || is_exponent exponent) (is_cut_before is_exponent_indicator is_fraction is_exponent exponent)
    (or_right (is_fraction exponent) (is_exponent exponent) (exponent_passes exponent exp))))
float_passes text (integer, fraction, exponent, is, int, inr (inr (frac, exp))) =
    rw is (float_from integer (fraction ++ exponent) int (fraction_begins fraction exponent frac)
    (or_right (is_fraction (fraction ++ exponent) || is_exponent (fraction ++ exponent))
    (is_cut_before is_exponent_indicator is_fraction is_exponent (fraction ++ exponent))
    (cut_passes is_exponent_indicator is_fraction is_exponent fraction exponent (fraction_lacks fraction frac)
    (exponent_begins exponent exp).0 (fraction_passes fraction frac) (exponent_passes exponent exp))))
