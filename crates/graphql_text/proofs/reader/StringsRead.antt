-- The reader reads strings.
use Rattle.std.proofs.Common.{◌≡◌, ℕ, zero, suc, ◌≤◌, ◌<◌, true, false, ◌&&◌, ◌==◌, List, [], ◌∷◌, ◌++◌, codes, refl, ap, ◌∙◌, append_assoc}
use Rattle.std.proofs.Common.{Some, length, arith, length-append, drop, eqb-true}
use Rattle.std.proofs.lemmas.Bool.Decides.{nat_tests}
use Rattle.graphql_text.specs.lexical.Characters.{is_quote, quotes, escaped_quotes, is_plain_string_character, escaped_character_value, begins_with}
use Rattle.graphql_base.specs.Names.{begins_in}
use Rattle.graphql_text.specs.strings.Strings.{StandsFor, plain, unicode, letter, StringCharacters, IsBlockRest, closing, escaped, itself}
use Rattle.std.proofs.lemmas.Bool.{and_parts}
use Rattle.graphql_text.proofs.reader.TokenReader.{character_at, quoted, block}

plain_not_quote : (c : ℕ) → is_plain_string_character c ≡ true → is_quote c ≡ false
plain_not_quote c h = grind (arith, nat_tests)

letter_not_u : (e value : ℕ) → escaped_character_value e ≡ Some value → (e == 0x75) ≡ false
letter_not_u e value h = grind (arith, nat_tests)

-- a string character is read, and it isn't `"`
pub character_complete : (text after : List ℕ) (value : ℕ) → StandsFor text value →
    (character_at (text ++ after) ≡ Some (value, after)) × (begins_in is_quote (text ++ after) ≡ false)
character_complete _ after _ (plain {c} is_plain) = (rw is_plain refl, plain_not_quote c is_plain)
character_complete _ after _ (unicode {a} {b} {c} {d} digits scalar) =
    (rw (digits, scalar) refl, refl)
character_complete _ after _ (letter {e} {c} stands) =
    (rw (letter_not_u e c stands, stands) refl, refl)

pub quoted_complete : (fuel : ℕ) (values text after : List ℕ) → StringCharacters text values →
    length values < fuel → quoted fuel (text ++ (codes "\"" ++ after)) ≡ Some (values, after)
quoted_complete zero values text after are enough = absurd (omega arith)
quoted_complete (suc fuel) [] text after are enough = rw are refl
quoted_complete (suc fuel) (value ∷ values) text after (first, rest, is, stands, are) enough =
    let tail : List ℕ = rest ++ (codes "\"" ++ after) in
    let whole : text ++ (codes "\"" ++ after) ≡ first ++ (rest ++ (codes "\"" ++ after)) =
    ap (λ l. l ++ (codes "\"" ++ after)) is ∙ append_assoc first rest (codes "\"" ++ after) in
    let (reads, no_quote) = character_complete first (rest ++ (codes "\"" ++ after)) value stands in
    let rec = quoted_complete fuel values rest after are (omega arith) in
    rw whole (rw (no_quote, reads, rec) refl)

-- a string character's spelling is at least one character long
pub characters_length : (values text : List ℕ) → StringCharacters text values →
    length values ≤ length text
characters_length [] text are = omega arith
characters_length (value ∷ values) text (first, rest, is, stands, are) =
    let rec = characters_length values rest are in
    let one : 1 ≤ length first = first_length first value stands in
    omega (arith, ap length is, length-append first rest)
  where
    first_length : (first : List ℕ) (value : ℕ) → StandsFor first value → 1 ≤ length first
    first_length _ _ (plain h) = omega arith
    first_length _ _ (unicode h scalar) = omega arith
    first_length _ _ (letter h) = omega arith

-- a short enough front doesn't see what follows
begins_with_short : (p xs r : List ℕ) → length p ≤ length xs →
    begins_with p (xs ++ r) ≡ begins_with p xs
begins_with_short [] xs r short = refl
begins_with_short (p ∷ ps) [] r short = absurd (omega arith)
begins_with_short (p ∷ ps) (x ∷ xs) r short =
    ap (λ b. (x == p) && b) (begins_with_short ps xs r (omega arith))

-- a text that begins with another one is that and what is past it
pub begins_cut : (p text : List ℕ) → begins_with p text ≡ true → text ≡ p ++ drop (length p) text
begins_cut [] text h = refl
begins_cut (p ∷ ps) [] h = cc
begins_cut (p ∷ ps) (c ∷ cs) h =
    let (same, more) = and_parts (c == p) (begins_with ps cs) h in
    ap (λ x. x ∷ cs) (eqb-true c p same) ∙ ap (λ l. p ∷ l) (begins_cut ps cs more)

pub block_length : (text raw : List ℕ) → IsBlockRest text raw → 3 ≤ length text
block_length _ _ closing = omega arith
block_length _ _ (escaped more) = omega arith
block_length _ _ (itself no_end no_escape more) = omega (arith, block_length _ _ more)

-- whether `"""` or `\"""` begins at a place in a block string can be seen before its end
pub block_sees : (p : List ℕ) (c : ℕ) (text raw after : List ℕ) → length p ≤ 4 →
    IsBlockRest text raw → begins_with p (c ∷ (text ++ after)) ≡ begins_with p (c ∷ text)
block_sees p c text raw after short is =
    let long = block_length text raw is in begins_with_short p (c ∷ text) after (omega arith)

pub block_complete : (fuel : ℕ) (text raw after : List ℕ) → IsBlockRest text raw →
    length text < fuel → block fuel (text ++ after) ≡ Some (raw, after)
block_complete zero _ _ after is enough = absurd (omega arith)
block_complete (suc fuel) _ _ after closing enough = refl
block_complete (suc fuel) _ _ after (escaped {text} {raw} more) enough =
    rw (block_complete fuel text raw after more (omega arith)) refl
block_complete (suc fuel) _ _ after (itself {c} {text} {raw} no_end no_escape more) enough =
    rw (
      block_sees quotes c text raw after (omega arith) more ∙ no_end,
      block_sees escaped_quotes c text raw after (omega arith) more ∙ no_escape,
      block_complete fuel text raw after more (omega arith),
    )
    refl
