-- How a scan of lines goes over a string.
use Rattle.std.proofs.lemmas.List.Folds.{list_any-append}
use Rattle.std.proofs.lemmas.Bool.{or_from}
use Rattle.std.proofs.Common.{ℕ, ◌+◌, ◌/◌, ◌%◌, ◌<◌, ◌≤◌, ◌≡◌, Bool, true, false, cond, not, ◌&&◌, ◌||◌, ◌==◌, List, [], ◌∷◌, ◌++◌, codes}
use Rattle.std.proofs.Common.{flat_map, Option, Some, None, nat_lt, refl, ap, sym, ◌∙◌, arith, append_assoc}
use Rattle.std.proofs.lemmas.Bool.Decides.{nat_tests}
use Rattle.std.specs.List.{list_any}
use Rattle.graphql_base.specs.Names.{begins_in}
use Rattle.graphql_text.specs.lexical.Characters.{is_line_terminator, is_quote, is_plain_string_character}
use Rattle.graphql_text.specs.strings.QuotedForm.{escape_letter, upper_hex_digit, written, quoted_character, quoted_form}
use Rattle.graphql_text.specs.layout.Lines.{ScanState, Outside, OneQuote, TwoQuotes, InQuoted, HasNoLineBreak}
use Rattle.graphql_text.proofs.lexical.CharacterClasses.{below_space, unescaped_plain}
use Rattle.graphql_text.proofs.layout.LineScan.{stays_indented, step}

-- THE QUOTED FORM

hex_plain : (d : ℕ) → d < 32 → is_plain_string_character (upper_hex_digit d) ≡ true
hex_plain d h = go (nat_lt d 10)
  where
    small : (c : ℕ) → 48 ≤ c → c < 92 → is_plain_string_character c ≡ true
    small c a b = grind (arith, nat_tests)

    go : (b : Bool) → is_plain_string_character (cond b (0x30 + d) (0x37 + d)) ≡ true
    go true = small (0x30 + d) (omega arith) (omega (arith, h))
    go false = small (0x37 + d) (omega arith) (omega (arith, h))

plain_parts : (c : ℕ) → is_plain_string_character c ≡ true → ((c == 10) ≡ false) × (is_quote c ≡ false) × ((c == 92) ≡ false) × (is_line_terminator c ≡ false)
plain_parts c h = grind (arith, nat_tests)

no_lf : (c : ℕ) → is_line_terminator c ≡ false → (c == 10) ≡ false
no_lf c h = grind (arith, nat_tests)

letter_breaks_not : (c letter : ℕ) → escape_letter c ≡ Some letter → is_line_terminator letter ≡ false
letter_breaks_not c letter h = grind (arith, nat_tests)

-- what a character of a value is written as: a backslash and a letter, `\u00` and two digits, or itself
written_cases : (P : List ℕ → Type 0) → ((letter : ℕ) → is_line_terminator letter ≡ false → P (92 ∷ letter ∷ [])) →
    ((a b : ℕ) → is_plain_string_character a ≡ true → is_plain_string_character b ≡ true → P (codes "\\u00" ++ (a ∷ b ∷ []))) →
    ((c : ℕ) → is_plain_string_character c ≡ true → P (c ∷ [])) → (c : ℕ) → P (quoted_character c)
written_cases P letters digits plain c = go (escape_letter c) refl
  where
    unescaped : (b : Bool) → escape_letter c ≡ None → (nat_lt c 0x20 && not (c == 0x9)) ≡ b →
        P (cond b (codes "\\u00" ++ (upper_hex_digit (c / 16) ∷ upper_hex_digit (c % 16) ∷ [])) (c ∷ []))
    unescaped true none e =
        let less : c < 32 = below_space c e in
        digits (upper_hex_digit (c / 16)) (upper_hex_digit (c % 16)) (hex_plain (c / 16) (omega (arith, less))) (hex_plain (c % 16) (omega (arith, less)))
    unescaped false none e = plain c (unescaped_plain c none)

    go : (o : Option ℕ) → escape_letter c ≡ o → P (written c o)
    go (Some letter) is = letters letter (letter_breaks_not c letter is)
    go None is = unescaped (nat_lt c 0x20 && not (c == 0x9)) is refl

pub breaks_not_append : (a b : List ℕ) → HasNoLineBreak a → HasNoLineBreak b → HasNoLineBreak (a ++ b)
breaks_not_append a b h k = list_any-append is_line_terminator a b ∙ or_from (list_any is_line_terminator a) (list_any is_line_terminator b) h k

character_breaks_not : (c : ℕ) → HasNoLineBreak (quoted_character c)
character_breaks_not = written_cases HasNoLineBreak (λ letter h. or_from (is_line_terminator letter) false h refl)
    (λ a b h k.
    let (_, _, _, x) = plain_parts a h in
    let (_, _, _, y) = plain_parts b k in
    or_from (is_line_terminator a) (is_line_terminator b || false) x (or_from (is_line_terminator b) false y refl))
    (λ c h. let (_, _, _, x) = plain_parts c h in or_from (is_line_terminator c) false x refl)

characters_break_not : (value : List ℕ) → HasNoLineBreak (flat_map quoted_character value)
characters_break_not [] = refl
characters_break_not (c ∷ value) =
    breaks_not_append (quoted_character c) (flat_map quoted_character value) (character_breaks_not c) (characters_break_not value)

-- a quoted string stands on one line
pub quoted_breaks_not : (value : List ℕ) → HasNoLineBreak (quoted_form value)
quoted_breaks_not value = breaks_not_append (flat_map quoted_character value) (codes "\"") (characters_break_not value) refl

module _ (prefix : List ℕ) (level : ℕ) where
  -- a string that has begun, as behind its first quote
  abbrev has_begun : Bool → ScanState
  has_begun true = OneQuote
  has_begun false = InQuoted false

  inner_step : (first : Bool) (depth c : ℕ) (rest : List ℕ) → is_line_terminator c ≡ false → is_quote c ≡ false →
      stays_indented prefix level (has_begun first) depth (c ∷ rest) ≡ stays_indented prefix level (InQuoted (c == 92)) depth rest
  inner_step true depth c rest h k = step prefix level OneQuote depth c rest (no_lf c h) ∙ rw k refl
  inner_step false depth c rest h k = step prefix level (InQuoted false) depth c rest (no_lf c h) ∙ rw k refl

  plain_step : (first : Bool) (depth c : ℕ) (rest : List ℕ) → is_plain_string_character c ≡ true →
      stays_indented prefix level (has_begun first) depth (c ∷ rest) ≡ stays_indented prefix level (InQuoted false) depth rest
  plain_step first depth c rest h =
      let (_, no_quote, no_backslash, no_break) = plain_parts c h in
      inner_step first depth c rest no_break no_quote ∙ rw no_backslash refl

  character_step : (first : Bool) (depth : ℕ) (rest : List ℕ) (c : ℕ) →
      stays_indented prefix level (has_begun first) depth (quoted_character c ++ rest) ≡ stays_indented prefix level (InQuoted false) depth rest
  character_step first depth rest =
      written_cases (λ text. stays_indented prefix level (has_begun first) depth (text ++ rest) ≡ stays_indented prefix level (InQuoted false) depth rest)
      (λ letter h. inner_step first depth 92 (letter ∷ rest) refl refl ∙ step prefix level (InQuoted true) depth letter rest (no_lf letter h))
      (λ a b h k.
      inner_step first depth 92 (0x75 ∷ 0x30 ∷ 0x30 ∷ a ∷ b ∷ rest) refl refl
      ∙ step prefix level (InQuoted true) depth 0x75 (0x30 ∷ 0x30 ∷ a ∷ b ∷ rest) refl
      ∙ plain_step false depth 0x30 (0x30 ∷ a ∷ b ∷ rest) refl ∙ plain_step false depth 0x30 (a ∷ b ∷ rest) refl
      ∙ plain_step false depth a (b ∷ rest) h ∙ plain_step false depth b rest k)
      (λ c h. plain_step first depth c rest h)

  characters_step : (depth : ℕ) (value rest : List ℕ) →
      stays_indented prefix level (InQuoted false) depth (flat_map quoted_character value ++ rest) ≡ stays_indented prefix level (InQuoted false) depth rest
  characters_step depth [] rest = refl
  characters_step depth (c ∷ value) rest =
      ap (stays_indented prefix level (InQuoted false) depth) (append_assoc (quoted_character c) (flat_map quoted_character value) rest)
      ∙ character_step false depth (flat_map quoted_character value ++ rest) c ∙ characters_step depth value rest

  -- behind an empty string, where no third quote follows
  behind_empty : (depth : ℕ) (rest : List ℕ) → begins_in is_quote rest ≡ false →
      stays_indented prefix level TwoQuotes depth rest ≡ stays_indented prefix level Outside depth rest
  behind_empty depth [] h = refl
  behind_empty depth (c ∷ rest) h = go (c == 10) refl
    where
      go : (b : Bool) → (c == 10) ≡ b → stays_indented prefix level TwoQuotes depth (c ∷ rest) ≡ stays_indented prefix level Outside depth (c ∷ rest)
      go true e = rw e refl
      go false e = step prefix level TwoQuotes depth c rest e ∙ rw h (sym (step prefix level Outside depth c rest e ∙ rw h refl))

  -- a quoted string
  pub quoted_step : (depth : ℕ) (value rest : List ℕ) → begins_in is_quote rest ≡ false →
      stays_indented prefix level Outside depth (quoted_form value ++ rest) ≡ stays_indented prefix level Outside depth rest
  quoted_step depth [] rest h = step prefix level Outside depth 34 (34 ∷ rest) refl ∙ step prefix level OneQuote depth 34 rest refl ∙ behind_empty depth rest h
  quoted_step depth (c ∷ value) rest h =
      let text = ((quoted_character c ++ flat_map quoted_character value) ++ (34 ∷ [])) ++ rest in
      let parts : text ≡ quoted_character c ++ (flat_map quoted_character value ++ (34 ∷ rest)) = simp append_assoc in
      step prefix level Outside depth 34 text refl
      ∙ ap (stays_indented prefix level OneQuote depth) parts
      ∙ character_step true depth (flat_map quoted_character value ++ (34 ∷ rest)) c ∙ characters_step depth value (34 ∷ rest)
      ∙ step prefix level (InQuoted false) depth 34 rest refl
