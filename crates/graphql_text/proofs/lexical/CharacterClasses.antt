-- Which classes of characters are apart.
use Rattle.std.proofs.Common.{◌≡◌, ℕ, ◌<◌, Bool, true, false, not, ◌&&◌, ◌||◌, ◌==◌, nat_lt, None, List, [], ◌∷◌, codes, arith, refl}
use Rattle.std.proofs.lemmas.Bool.Decides.{nat_tests}
use Rattle.std.specs.Char.{is_ascii_digit}
use Rattle.std.specs.Int.{is_in_range}
use Rattle.std.specs.List.{list_all, list_any, AllByRecursion}
use Rattle.graphql_text.specs.lexical.Characters.{is_line_terminator, is_ignored, follows_no_number, is_quote, is_plain_string_character}
use Rattle.graphql_text.specs.strings.QuotedForm.{escape_letter}
use Rattle.std.proofs.lemmas.Bool.{and_parts, and_from}
use Rattle.graphql_base.specs.Names.{is_name_start}
use Rattle.graphql_text.specs.lexical.Literals.{is_exponent_indicator, begins_float_part}

-- each character of the text is of the class
abbrev pub Each : (ℕ → Bool) → List ℕ → Type 0
Each class text = AllByRecursion (λ c. class c ≡ true) text

pub list_all_each : (class : ℕ → Bool) (text : List ℕ) → list_all class text ≡ true →
    Each class text
list_all_each class [] h = tt
list_all_each class (c ∷ cs) h =
    let (first, more) = and_parts (class c) (list_all class cs) h in (first, list_all_each class cs more)

pub each_list_all : (class : ℕ → Bool) (text : List ℕ) → Each class text →
    list_all class text ≡ true
each_list_all class [] list_of = refl
each_list_all class (c ∷ cs) list_of =
    and_from (class c) (list_all class cs) list_of.0 (each_list_all class cs list_of.1)

-- the punctuators of one character
abbrev pub is_punctuator : ℕ → Bool
is_punctuator c = list_any (λ p. c == p) (codes "!$&():=@[]{|}")

pub name_not_punctuator : (c : ℕ) → is_name_start c ≡ true → is_punctuator c ≡ false
name_not_punctuator c start = grind (arith, nat_tests)

pub name_not_point : (c : ℕ) → is_name_start c ≡ true → (c == 0x2E) ≡ false
name_not_point c start = grind (arith, nat_tests)

-- a digit or `-`
abbrev pub is_number_start : ℕ → Bool
is_number_start c = is_ascii_digit c || (c == 0x2D)

pub number_not_punctuator : (c : ℕ) → is_number_start c ≡ true → is_punctuator c ≡ false
number_not_punctuator c start = grind (arith, nat_tests)

pub number_not_point : (c : ℕ) → is_number_start c ≡ true → (c == 0x2E) ≡ false
number_not_point c start = grind (arith, nat_tests)

pub number_not_name : (c : ℕ) → is_number_start c ≡ true → is_name_start c ≡ false
number_not_name c start = grind (arith, nat_tests)

pub number_not_quote : (c : ℕ) → is_number_start c ≡ true → is_quote c ≡ false
number_not_quote c start = grind (arith, nat_tests)

-- how a token begins
abbrev pub is_token_start : ℕ → Bool
is_token_start c =
    (is_punctuator c || (c == 0x2E)) || ((is_name_start c || is_quote c) || is_number_start c)

pub token_not_ignored : (c : ℕ) → is_token_start c ≡ true → is_ignored c ≡ false
token_not_ignored c start = grind (arith, nat_tests)

pub token_not_comment : (c : ℕ) → is_token_start c ≡ true → (c == 0x23) ≡ false
token_not_comment c start = grind (arith, nat_tests)

pub terminator_ignored : (c : ℕ) → is_line_terminator c ≡ true → is_ignored c ≡ true
terminator_ignored c ends = grind (arith, nat_tests)

pub start_name : (c : ℕ) → is_name_start c ≡ true → is_token_start c ≡ true
start_name c h = grind (arith, nat_tests)

pub start_number : (c : ℕ) → is_number_start c ≡ true → is_token_start c ≡ true
start_number c h = grind (arith, nat_tests)

pub not_part_not_digit : (c : ℕ) → follows_no_number c ≡ false → is_ascii_digit c ≡ false
not_part_not_digit c h = grind (arith, nat_tests)

pub not_part_not_float_mark : (c : ℕ) → follows_no_number c ≡ false → begins_float_part c ≡ false
not_part_not_float_mark c h = grind (arith, nat_tests)

pub not_part_not_point : (c : ℕ) → follows_no_number c ≡ false → (c == 0x2E) ≡ false
not_part_not_point c h = grind (arith, nat_tests)

pub not_part_not_exponent_mark : (c : ℕ) → follows_no_number c ≡ false →
    is_exponent_indicator c ≡ false
not_part_not_exponent_mark c h = grind (arith, nat_tests)

pub digit_not_minus : (c : ℕ) → is_ascii_digit c ≡ true → (c == 0x2D) ≡ false
digit_not_minus c h = grind (arith, nat_tests)

pub digit_not_sign : (c : ℕ) → is_ascii_digit c ≡ true → ((c == 0x2B) || (c == 0x2D)) ≡ false
digit_not_sign c h = grind (arith, nat_tests)

pub positive_digit : (c : ℕ) → is_in_range 0x31 0x39 c ≡ true → is_ascii_digit c ≡ true
positive_digit c h = grind (arith, nat_tests)

pub positive_not_zero : (c : ℕ) → is_in_range 0x31 0x39 c ≡ true → (c == 0x30) ≡ false
positive_not_zero c h = grind (arith, nat_tests)

pub mark_either : (c : ℕ) → is_exponent_indicator c ≡ true → begins_float_part c ≡ true
mark_either c h = grind (arith, nat_tests)

pub below_space : (c : ℕ) → (nat_lt c 0x20 && not (c == 0x9)) ≡ true → c < 32
below_space c h = grind (arith, nat_tests)

pub unescaped_plain : (c : ℕ) → escape_letter c ≡ None → is_plain_string_character c ≡ true
unescaped_plain c h = grind (arith, nat_tests)
