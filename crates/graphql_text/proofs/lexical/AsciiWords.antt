-- The words of a layout, but strings, are ASCII: they are their own UTF-8 form, and source texts.
use Rattle.std.proofs.Common.{ℕ, ◌≡◌, ◌<◌, Bool, true, List, [], ◌∷◌, ◌++◌, refl, ap₂, arith, encode_utf8_all}
use Rattle.std.proofs.lemmas.Bool.Decides.{nat_tests}
use Rattle.std.proofs.lemmas.Str.{encode_ascii}
use Rattle.std.proofs.Math.Utf8.{encode, scalar, low_scalar}
use Rattle.std.specs.List.{list_all, AllByRecursion}
use Rattle.std.specs.Str.{all_scalars}
use Rattle.graphql_base.specs.Names.{is_name}
use Rattle.graphql_text.specs.lexical.Literals.{is_int, is_float, NameText, IntText, FloatText}
use Rattle.graphql_text.specs.lexical.Tokens.{Punctuator, bang, dollar, amp, lparen, rparen, spread, colon, equals, at, lbracket, rbracket}
use Rattle.graphql_text.specs.lexical.Tokens.{lbrace, bar, rbrace, punctuator_text}
use Rattle.graphql_text.proofs.lexical.CharacterClasses.{Each, list_all_each}
use Rattle.std.proofs.lemmas.Bool.{and_from}
use Rattle.graphql_text.proofs.lexical.WordCharacters.{is_word_character, name_characters, int_characters, float_characters}

-- each character is an ASCII one
abbrev pub Low : List ℕ → Type 0
Low text = AllByRecursion (λ c. c < 128) text

pub low_each : (class : ℕ → Bool) → ((c : ℕ) → class c ≡ true → c < 128) → (text : List ℕ) →
    Each class text → Low text
low_each class low [] are = tt
low_each class low (c ∷ text) are = (low c are.0, low_each class low text are.1)

low_word : (c : ℕ) → is_word_character c ≡ true → c < 128
low_word c h = grind (arith, nat_tests)

words_low : (text : List ℕ) → list_all is_word_character text ≡ true → Low text
words_low text are = low_each is_word_character low_word text (list_all_each is_word_character text are)

pub name_low : (text : List ℕ) → is_name text ≡ true → Low text
name_low text valid = words_low text (name_characters text valid)

pub int_low : (text : List ℕ) → is_int text ≡ true → Low text
int_low text valid = words_low text (int_characters text valid)

pub float_low : (text : List ℕ) → is_float text ≡ true → Low text
float_low text valid = words_low text (float_characters text valid)

pub low_bytes : (text : List ℕ) → Low text → encode_utf8_all text ≡ text
low_bytes [] low = refl
low_bytes (c ∷ text) low =
    ap₂ (λ (a b : List ℕ). a ++ b) (encode_ascii c low.0) (low_bytes text low.1)

pub low_scalars : (text : List ℕ) → Low text → all_scalars text ≡ true
low_scalars [] low = refl
low_scalars (c ∷ text) low =
    let less = low.0 in and_from (scalar c) (all_scalars text) (low_scalar c (omega (arith, less))) (low_scalars text low.1)

pub name_bytes : (name : NameText) → encode_utf8_all name.text ≡ name.text
name_bytes name = low_bytes name.text (name_low name.text name.valid)

pub int_bytes : (int : IntText) → encode_utf8_all int.text ≡ int.text
int_bytes int = low_bytes int.text (int_low int.text int.valid)

pub float_bytes : (float : FloatText) → encode_utf8_all float.text ≡ float.text
float_bytes float = low_bytes float.text (float_low float.text float.valid)

pub mark_bytes : (mark : Punctuator) → encode_utf8_all (punctuator_text mark) ≡ punctuator_text mark
unfolding encode
mark_bytes bang = refl
mark_bytes dollar = refl
mark_bytes amp = refl
mark_bytes lparen = refl
mark_bytes rparen = refl
mark_bytes spread = refl
mark_bytes colon = refl
mark_bytes equals = refl
mark_bytes at = refl
mark_bytes lbracket = refl
mark_bytes rbracket = refl
mark_bytes lbrace = refl
mark_bytes bar = refl
mark_bytes rbrace = refl
