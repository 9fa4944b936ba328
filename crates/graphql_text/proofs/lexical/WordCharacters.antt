-- The characters of names and numbers.
use Rattle.std.proofs.lemmas.List.Folds.{list_all-append}
use Rattle.std.proofs.lemmas.Bool.{and_from}
use Rattle.std.proofs.Common.{ℕ, ◌≡◌, ◌∙◌, Bool, true, ◌||◌, ◌==◌, List, [], ◌∷◌, ◌++◌, codes, refl, inl, inr, ◌⊎◌, arith}
use Rattle.std.proofs.lemmas.Bool.Decides.{nat_tests}
use Rattle.std.specs.Char.{is_ascii_digit}
use Rattle.std.specs.Int.{is_in_range}
use Rattle.std.specs.List.{list_any, list_all}
use Rattle.graphql_base.specs.Names.{is_name_start, is_name_continue, is_name}
use Rattle.graphql_text.specs.lexical.Literals.{is_int, is_float}
use Rattle.graphql_text.proofs.lexical.CharacterClasses.{Each}
use Rattle.graphql_text.proofs.lexical.NameAndNumberParts.{IsName, IsNatural, IsInt, IsDigits, IsFraction, IsExponent, IsFloat}
use Rattle.graphql_text.proofs.lexical.LiteralsDecided.{name_valid, int_valid, float_valid}

-- a character of a name or a number
abbrev pub is_word_character : ℕ → Bool
is_word_character c = is_name_continue c || list_any (λ d. c == d) (codes "+-.")

abbrev Words : List ℕ → Type 0
Words text = list_all is_word_character text ≡ true

words_append : (a b : List ℕ) → Words a → Words b → Words (a ++ b)
words_append a b h k = list_all-append is_word_character a b ∙ and_from (list_all is_word_character a) (list_all is_word_character b) h k

words_each : (class : ℕ → Bool) → ((c : ℕ) → class c ≡ true → is_word_character c ≡ true) → (text : List ℕ) → Each class text → Words text
words_each class is [] h = refl
words_each class is (c ∷ text) h = and_from (is_word_character c) (list_all is_word_character text) (is c h.0) (words_each class is text h.1)

name_start : (c : ℕ) → is_name_start c ≡ true → is_word_character c ≡ true
name_start c h = grind (arith, nat_tests)

name_continue : (c : ℕ) → is_name_continue c ≡ true → is_word_character c ≡ true
name_continue c h = grind (arith, nat_tests)

digit : (c : ℕ) → is_ascii_digit c ≡ true → is_word_character c ≡ true
digit c h = grind (arith, nat_tests)

positive : (c : ℕ) → is_in_range 0x31 0x39 c ≡ true → is_word_character c ≡ true
positive c h = grind (arith, nat_tests)

name_words : (text : List ℕ) → IsName text → Words text
name_words text (c, cs, is, start, more) =
    rw is (and_from (is_word_character c) (list_all is_word_character cs) (name_start c start)
    (words_each is_name_continue name_continue cs more))

natural_words : (text : List ℕ) → IsNatural text → Words text
natural_words text (inl is) = rw is refl
natural_words text (inr (c, cs, is, first, more)) =
    rw is (and_from (is_word_character c) (list_all is_word_character cs) (positive c first) (words_each is_ascii_digit digit cs more))

int_words : (text : List ℕ) → IsInt text → Words text
int_words text (sign, digits, is, inl none, natural) = rw is (words_append sign digits (rw none refl) (natural_words digits natural))
int_words text (sign, digits, is, inr minus, natural) = rw is (words_append sign digits (rw minus refl) (natural_words digits natural))

digits_words : (text : List ℕ) → IsDigits text → Words text
digits_words text (c, cs, is, more) = rw is (words_each is_ascii_digit digit (c ∷ cs) more)

fraction_words : (text : List ℕ) → IsFraction text → Words text
fraction_words text (digits, is, are) = rw is (words_append (codes ".") digits refl (digits_words digits are))

sign_words : (sign : List ℕ) → (sign ≡ []) ⊎ ((sign ≡ codes "+") ⊎ (sign ≡ codes "-")) → Words sign
sign_words sign (inl is) = rw is refl
sign_words sign (inr (inl is)) = rw is refl
sign_words sign (inr (inr is)) = rw is refl

exponent_words : (text : List ℕ) → IsExponent text → Words text
exponent_words text (mark, sign, digits, is, inl small, signs, are) =
    rw is (words_append mark (sign ++ digits) (rw small refl) (words_append sign digits (sign_words sign signs) (digits_words digits are)))
exponent_words text (mark, sign, digits, is, inr large, signs, are) =
    rw is (words_append mark (sign ++ digits) (rw large refl) (words_append sign digits (sign_words sign signs) (digits_words digits are)))

float_words : (text : List ℕ) → IsFloat text → Words text
float_words text (integer, fraction, exponent, is, int, inl (frac, none)) =
    rw is (words_append integer (fraction ++ exponent) (int_words integer int)
    (words_append fraction exponent (fraction_words fraction frac) (rw none refl)))
float_words text (integer, fraction, exponent, is, int, inr (inl (none, exp))) =
    rw is (words_append integer (fraction ++ exponent) (int_words integer int)
    (words_append fraction exponent (rw none refl) (exponent_words exponent exp)))
float_words text (integer, fraction, exponent, is, int, inr (inr (frac, exp))) =
    rw is (words_append integer (fraction ++ exponent) (int_words integer int)
    (words_append fraction exponent (fraction_words fraction frac) (exponent_words exponent exp)))

pub name_characters : (text : List ℕ) → is_name text ≡ true → list_all is_word_character text ≡ true
name_characters text h = name_words text (name_valid text h)

pub int_characters : (text : List ℕ) → is_int text ≡ true → list_all is_word_character text ≡ true
int_characters text h = int_words text (int_valid text h)

pub float_characters : (text : List ℕ) → is_float text ≡ true → list_all is_word_character text ≡ true
float_characters text h = float_words text (float_valid text h)
