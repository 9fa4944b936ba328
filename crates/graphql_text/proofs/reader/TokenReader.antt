-- A reader of tokens, which computes.
use Rattle.std.proofs.Common.{ℕ, zero, suc, ◌-◌, Bool, true, false, cond, ◌&&◌, ◌||◌, not, ◌==◌, List, [], ◌∷◌, ◌++◌, codes, drop, take}
use Rattle.std.proofs.Common.{length, Option, Some, None, option_and_then}
use Rattle.std.specs.Char.{is_ascii_digit, is_ascii_hexdigit}
use Rattle.std.specs.List.{list_all}
use Rattle.graphql_text.specs.lexical.Characters.{is_line_terminator, is_ignored, follows_no_number, is_quote, quotes, escaped_quotes}
use Rattle.graphql_text.specs.lexical.Characters.{is_plain_string_character, escaped_character_value, unicode_escape_value, is_surrogate}
use Rattle.graphql_text.specs.lexical.Characters.{begins_with}
use Rattle.graphql_text.proofs.lexical.CharacterClasses.{is_punctuator}
use Rattle.graphql_base.specs.Names.{is_name_start, is_name_continue, begins_in}
use Rattle.graphql_text.specs.lexical.Literals.{is_exponent_indicator, begins_float_part}
use Rattle.graphql_text.specs.strings.BlockStringValue.{block_string_value}
use Rattle.graphql_text.specs.lexical.Tokens.{Punctuator, bang, dollar, amp, lparen, rparen, spread, colon, equals, at, lbracket, rbracket}
use Rattle.graphql_text.specs.lexical.Tokens.{lbrace, bar, rbrace, Token, Punctuation, Name, IntValue, FloatValue, StringValue}

-- the longest front of the class, and what is past it
abbrev pub front : (ℕ → Bool) → List ℕ → List ℕ
front class [] = []
front class (c ∷ cs) = let more = front class cs in cond (class c) (c ∷ more) []

-- what is past the longest front of a class
abbrev pub past : (ℕ → Bool) → List ℕ → List ℕ
past class [] = []
past class (c ∷ cs) = let more = past class cs in cond (class c) more (c ∷ cs)

-- what is past the parts of a number
abbrev pub past_digits : List ℕ → Option (List ℕ)
past_digits [] = None
past_digits (c ∷ cs) = cond (is_ascii_digit c) (Some (past is_ascii_digit cs)) None

abbrev pub past_natural : List ℕ → Option (List ℕ)
past_natural [] = None
past_natural (c ∷ cs) = cond (c == 0x30) (Some cs) (past_digits (c ∷ cs))

abbrev pub past_integer : List ℕ → Option (List ℕ)
past_integer [] = None
past_integer (c ∷ cs) = cond (c == 0x2D) (past_natural cs) (past_natural (c ∷ cs))

abbrev pub past_fraction : List ℕ → Option (List ℕ)
past_fraction [] = Some []
past_fraction (c ∷ cs) = cond (c == 0x2E) (past_digits cs) (Some (c ∷ cs))

abbrev pub past_signed : List ℕ → Option (List ℕ)
past_signed [] = None
past_signed (c ∷ cs) = cond ((c == 0x2B) || (c == 0x2D)) (past_digits cs) (past_digits (c ∷ cs))

abbrev pub past_exponent : List ℕ → Option (List ℕ)
past_exponent [] = Some []
past_exponent (c ∷ cs) = cond (is_exponent_indicator c) (past_signed cs) (Some (c ∷ cs))

-- what is past an ignored stretch; at `true` inside a comment
abbrev pub skip : Bool → List ℕ → List ℕ
skip comment [] = []
skip true (c ∷ cs) =
    let outside = skip false cs in
    let inside = skip true cs in
    cond (is_line_terminator c) outside inside
skip false (c ∷ cs) =
    let outside = skip false cs in
    let inside = skip true cs in
    cond (is_ignored c) outside (cond (c == 0x23) inside (c ∷ cs))

-- the front of the text that leaves the rest
abbrev pub before : List ℕ → List ℕ → List ℕ
before text rest = take (length text - length rest) text

abbrev pub number_at : List ℕ → List ℕ → List ℕ → Option (Token × List ℕ)
number_at text integer rest =
    cond (begins_in follows_no_number rest) None
    (Some (cond (begins_in begins_float_part integer) (FloatValue (before text rest)) (IntValue (before text rest)), rest))

abbrev pub number : List ℕ → Option (Token × List ℕ)
number text =
    option_and_then
    (λ integer.
    option_and_then (λ fraction. option_and_then (λ rest. number_at text integer rest) (past_exponent fraction))
    (past_fraction integer))
    (past_integer text)

-- one string character: what it stands for, and what is past it
abbrev pub unicode_at : List ℕ → Option (ℕ × List ℕ)
unicode_at (a ∷ b ∷ c ∷ d ∷ rest) =
    cond (list_all is_ascii_hexdigit (a ∷ b ∷ c ∷ d ∷ []) && not (is_surrogate (unicode_escape_value a b c d))) (Some (unicode_escape_value a b c d, rest)) None
unicode_at _ = None

abbrev pub after_backslash : List ℕ → Option (ℕ × List ℕ)
after_backslash [] = None
after_backslash (c ∷ cs) =
    let code = unicode_at cs in cond (c == 0x75) code (option_and_then (λ value. Some (value, cs)) (escaped_character_value c))

abbrev pub character_at : List ℕ → Option (ℕ × List ℕ)
character_at [] = None
character_at (c ∷ cs) =
    let escape = after_backslash cs in cond (is_plain_string_character c) (Some (c, cs)) (cond (c == 0x5C) escape None)

-- a quoted string's value from the place after its first quote, and what is past its last quote
abbrev pub quoted : ℕ → List ℕ → Option (List ℕ × List ℕ)
quoted zero text = None
quoted (suc fuel) text =
    let going_on = option_and_then (λ one. option_and_then (λ found. Some (one.0 ∷ found.0, found.1)) (quoted fuel one.1)) (character_at text) in
    cond (begins_in is_quote text) (Some ([], drop 1 text)) going_on

-- a block string's raw value from the place after its first quotes
abbrev pub block : ℕ → List ℕ → Option (List ℕ × List ℕ)
block zero text = None
block (suc fuel) [] = None
block (suc fuel) (c ∷ cs) =
    let escape = option_and_then (λ found. Some (quotes ++ found.0, found.1)) (block fuel (drop 3 cs)) in
    let plain = option_and_then (λ found. Some (c ∷ found.0, found.1)) (block fuel cs) in
    cond (begins_with quotes (c ∷ cs)) (Some ([], drop 2 cs)) (cond (begins_with escaped_quotes (c ∷ cs)) escape plain)

-- a string from the place after its first quote
abbrev pub string : List ℕ → Option (Token × List ℕ)
string text =
    let in_block = option_and_then (λ found. Some (StringValue (block_string_value found.0), found.1)) (block (length text) (drop 2 text)) in
    let in_quotes = option_and_then (λ found. Some (StringValue found.0, found.1)) (quoted (suc (length text)) text) in
    cond (begins_with (codes "\"\"") text) in_block in_quotes

-- the punctuator of a character that is one
abbrev pub mark_at : ℕ → Punctuator
mark_at c =
    cond (c == 0x21) bang (cond (c == 0x24) dollar (cond (c == 0x26) amp (cond (c == 0x28) lparen (cond (c == 0x29) rparen
    (cond (c == 0x3A) colon (cond (c == 0x3D) equals (cond (c == 0x40) at (cond (c == 0x5B) lbracket (cond (c == 0x5D) rbracket
    (cond (c == 0x7B) lbrace (cond (c == 0x7C) bar rbrace)))))))))))

abbrev pub token : List ℕ → Option (Token × List ℕ)
token [] = None
token (c ∷ cs) =
    let in_string = string cs in
    let in_number = number (c ∷ cs) in
    let dots = cond (begins_with (codes "..") cs) (Some (Punctuation spread, drop 2 cs)) None in
    cond (is_punctuator c) (Some (Punctuation (mark_at c), cs))
    (cond (c == 0x2E) dots
    (cond (is_name_start c) (Some (Name (c ∷ front is_name_continue cs), past is_name_continue cs))
    (cond (is_quote c) in_string
    in_number)))

abbrev pub lex_from : ℕ → List ℕ → Option (List Token)
lex_from zero text = None
lex_from (suc fuel) [] = Some []
lex_from (suc fuel) (c ∷ cs) =
    option_and_then (λ found. option_and_then (λ tokens. Some (found.0 ∷ tokens)) (lex_from fuel (skip false found.1))) (token (c ∷ cs))

-- the tokens of a text
abbrev pub lex : List ℕ → Option (List Token)
lex text = lex_from (suc (length text)) (skip false text)
