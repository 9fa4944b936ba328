-- The quoted form spells its value.
use Rattle.std.proofs.Common.{◌≡◌, ℕ, zero, suc, ◌<◌, ◌/◌, ◌%◌, Bool, true, false, cond, ◌&&◌, not, ◌==◌, nat_lt, List, [], ◌∷◌, ◌++◌}
use Rattle.std.proofs.Common.{codes, refl, ap, ◌∙◌, subst, inl, inr, ◌⊎◌, arith, flat_map, Option, Some, None, eqb-true}
use Rattle.std.proofs.lemmas.Bool.Decides.{nat_tests}
use Rattle.std.specs.Char.{is_ascii_hexdigit}
use Rattle.graphql_text.specs.lexical.Characters.{is_quote, is_surrogate, escaped_character_value, unicode_escape_value}
use Rattle.graphql_base.specs.Names.{begins_in}
use Rattle.graphql_text.specs.strings.Strings.{StandsFor, plain, unicode, letter, StringCharacters}
use Rattle.graphql_text.specs.lexical.Tokens.{StringValue, Spells}
use Rattle.graphql_text.specs.strings.QuotedForm.{escape_letter, upper_hex_digit, written, quoted_character, quoted_form}
use Rattle.graphql_text.proofs.general.BooleanTests.{first_holds, second_holds}
use Rattle.graphql_text.proofs.lexical.CharacterClasses.{below_space, unescaped_plain}

-- a test that passes at each number below n
abbrev all_below : ℕ → (ℕ → Bool) → Bool
all_below zero test = true
all_below (suc n) test = test n && all_below n test

at_or_below : (c n : ℕ) → c < suc n → (c ≡ n) ⊎ (c < n)
at_or_below c n lt = grind arith

below_step : (n : ℕ) (test : ℕ → Bool) (c : ℕ) → all_below (suc n) test ≡ true →
    (c < n → test c ≡ true) → (c ≡ n) ⊎ (c < n) → test c ≡ true
below_step n test c all rec (inl e) = ap test e ∙ first_holds (test n) (all_below n test) all
below_step n test c all rec (inr l) = rec l

below : (n : ℕ) (test : ℕ → Bool) (c : ℕ) → all_below n test ≡ true → c < n → test c ≡ true
below zero test c all lt = absurd (omega arith)
below (suc n) test c all lt =
    below_step n test c all (below n test c (second_holds (test n) (all_below n test) all)) (at_or_below c n lt)

-- the two digits of a character below 32 write it
hex_right : (c : ℕ) → c < 32 →
    ((unicode_escape_value 0x30 0x30 (upper_hex_digit (c / 16)) (upper_hex_digit (c % 16)) == c)
    && (is_ascii_hexdigit (upper_hex_digit (c / 16)) && is_ascii_hexdigit (upper_hex_digit (c % 16)))) ≡ true
hex_right c lt =
    below 32 (λ c.
    (unicode_escape_value 0x30 0x30 (upper_hex_digit (c / 16)) (upper_hex_digit (c % 16)) == c)
    && (is_ascii_hexdigit (upper_hex_digit (c / 16)) && is_ascii_hexdigit (upper_hex_digit (c % 16)))) c refl lt

letter_stands : (c e : ℕ) → escape_letter c ≡ Some e → escaped_character_value e ≡ Some c
letter_stands c e h = grind (arith, nat_tests)

no_surrogate_below : (c : ℕ) → c < 32 → is_surrogate c ≡ false
no_surrogate_below c lt = grind (arith, nat_tests)

both_more : (a b : Bool) → (a && b) ≡ true → (a && (b && true)) ≡ true
both_more true true h = refl
both_more true false h = cc
both_more false b h = cc

unescaped_stands : (c : ℕ) (b : Bool) → escape_letter c ≡ None →
    (nat_lt c 0x20 && not (c == 0x9)) ≡ b →
    StandsFor (cond b (codes "\\u00" ++ (upper_hex_digit (c / 16) ∷ upper_hex_digit (c % 16) ∷ [])) (c ∷ [])) c
unescaped_stands c false none is = plain (unescaped_plain c none)
unescaped_stands c true none is =
    let lt = below_space c is in
    let right = hex_right c lt in
    let same = eqb-true _ _ (first_holds _ _ right) in
    let digits = second_holds _ _ right in
    let stands : StandsFor (codes "\\u00" ++ (upper_hex_digit (c / 16) ∷ upper_hex_digit (c % 16) ∷ []))
    (unicode_escape_value 0x30 0x30 (upper_hex_digit (c / 16)) (upper_hex_digit (c % 16))) =
    unicode {a = 0x30} {b = 0x30} {c = upper_hex_digit (c / 16)} {d = upper_hex_digit (c % 16)}
    (both_more (is_ascii_hexdigit (upper_hex_digit (c / 16))) (is_ascii_hexdigit (upper_hex_digit (c % 16))) digits)
    (ap is_surrogate same ∙ no_surrogate_below c lt) in
    subst (StandsFor (codes "\\u00" ++ (upper_hex_digit (c / 16) ∷ upper_hex_digit (c % 16) ∷ []))) same stands

written_stands : (c : ℕ) (o : Option ℕ) → escape_letter c ≡ o → StandsFor (written c o) c
written_stands c (Some e) is = letter (letter_stands c e is)
written_stands c None is = unescaped_stands c (nat_lt c 0x20 && not (c == 0x9)) is refl

form_characters : (value : List ℕ) → StringCharacters (flat_map quoted_character value) value
form_characters [] = refl
form_characters (c ∷ cs) =
    (quoted_character c, flat_map quoted_character cs, refl, written_stands c (escape_letter c) refl, form_characters cs)

-- the quoted form of a value spells it, before anything that doesn't begin with `"`
pub form_spells : (value after : List ℕ) → begins_in is_quote after ≡ false →
    Spells (StringValue value) (quoted_form value) after
form_spells [] after stops = inl (refl, stops)
form_spells (c ∷ cs) after stops =
    inl (flat_map quoted_character (c ∷ cs), refl, form_characters (c ∷ cs))
