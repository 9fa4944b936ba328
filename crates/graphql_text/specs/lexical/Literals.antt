-- The syntax of numbers (Int Value, section 2.9.1; Float Value, section 2.9.2) as tests of texts; and texts that pass a
-- test.
use Rattle.std.specs.Prelude.{ℕ, ◌≡◌, Bool, true, false, if◌then◌else◌, ◌&&◌, ◌||◌, ◌==◌, nat_eq, List, [], ◌∷◌, codes, take, drop}
use Rattle.std.specs.Char.{is_ascii_digit}
use Rattle.std.specs.Cmp.Lexicographic.{pointwise}
use Rattle.std.specs.Int.{is_in_range}
use Rattle.std.specs.List.{list_all, position_or_len}
use Rattle.std.specs.Str.{all_scalars}
use Rattle.graphql_base.specs.Names.{is_name, begins_in}

-- what follows one character of a class, which may be left out
abbrev pub after_optional : (ℕ → Bool) → List ℕ → List ℕ
after_optional class [] = []
after_optional class (c ∷ text) = if class c then text else c ∷ text

-- The text is cut before its first character of a class: whether its parts pass these two tests.
abbrev pub is_cut_before : (ℕ → Bool) → (List ℕ → Bool) → (List ℕ → Bool) → List ℕ → Bool
is_cut_before class first second text =
    let place = position_or_len class text in
    first (take place text) && second (drop place text)

-- one Digit or more
abbrev pub is_digits : List ℕ → Bool
is_digits text = begins_in is_ascii_digit text && list_all is_ascii_digit text

-- `0`, or a NonZeroDigit and any number of Digits
abbrev pub is_natural : List ℕ → Bool
is_natural text =
    pointwise nat_eq text (codes "0") || (begins_in (is_in_range 0x31 0x39) text && list_all is_ascii_digit text)

-- NegativeSign
abbrev pub is_negative_sign : ℕ → Bool
is_negative_sign c = c == 0x2D

-- IntValue: an IntegerPart, which may begin with a NegativeSign
abbrev pub is_int : List ℕ → Bool
is_int text = is_natural (after_optional is_negative_sign text)

-- FractionalPart: `.` and one Digit or more
abbrev pub is_fraction : List ℕ → Bool
is_fraction [] = false
is_fraction (c ∷ text) = (c == 0x2E) && is_digits text

-- ExponentIndicator
abbrev pub is_exponent_indicator : ℕ → Bool
is_exponent_indicator c = (c == 0x65) || (c == 0x45)

-- Sign
abbrev pub is_sign : ℕ → Bool
is_sign c = (c == 0x2B) || (c == 0x2D)

-- ExponentPart: an ExponentIndicator, a Sign that may be left out, and one Digit or more
abbrev pub is_exponent : List ℕ → Bool
is_exponent [] = false
is_exponent (c ∷ text) = is_exponent_indicator c && is_digits (after_optional is_sign text)

-- how a FractionalPart or an ExponentPart begins
abbrev pub begins_float_part : ℕ → Bool
begins_float_part c = (c == 0x2E) || is_exponent_indicator c

-- a FractionalPart, an ExponentPart, or both
abbrev pub is_float_part : List ℕ → Bool
is_float_part text =
    is_fraction text || is_exponent text || is_cut_before is_exponent_indicator is_fraction is_exponent text

-- FloatValue: an IntegerPart, and a FractionalPart or an ExponentPart or both
abbrev pub is_float : List ℕ → Bool
is_float text = is_cut_before begins_float_part is_int is_float_part text

-- A text that passes a test. A tree holds its names, numbers and strings so: each comes with its syntax.
pub record Checked (test : List ℕ → Bool) : Type 0 where
  pub text : List ℕ
  pub valid : test text ≡ true

abbrev pub NameText : Type 0
NameText = Checked is_name

abbrev pub IntText : Type 0
IntText = Checked is_int

abbrev pub FloatText : Type 0
FloatText = Checked is_float

abbrev pub StringText : Type 0
StringText = Checked all_scalars
