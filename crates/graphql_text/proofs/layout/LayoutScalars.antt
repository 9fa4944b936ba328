-- Layouts are made of Unicode scalar values.
use Rattle.std.proofs.Common.{ℕ, zero, suc, ◌+◌, ◌-◌, ◌/◌, ◌%◌, ◌≡◌, Bool, true, false, cond, not, if◌then◌else◌, ◌&&◌, ◌||◌, ◌==◌, ◌<◌}
use Rattle.std.proofs.Common.{List, [], ◌∷◌, ◌++◌, codes, Option, Some, None, refl, arith, flat_map, nat_lt, length, encode_utf8_all}
use Rattle.std.proofs.lemmas.Bool.Decides.{nat_tests}
use Rattle.std.proofs.Math.Utf8.{scalar, low_scalar}
use Rattle.std.specs.Str.{all_scalars}
use Rattle.std.specs.List.{list_any, list_all, repeat, onto_first}
use Rattle.graphql_text.specs.lexical.Characters.{is_quote, quotes, escaped_quotes, is_space_or_tab}
use Rattle.graphql_text.specs.strings.BlockStringValue.{is_blank, lines_of}
use Rattle.graphql_text.specs.strings.BlockForm.{escape_quotes, broken_line, block_over_lines, block_on_one_line, would_join_closing_quotes}
use Rattle.graphql_text.specs.strings.BlockForm.{can_be_block, block_form}
use Rattle.graphql_text.specs.strings.QuotedForm.{upper_hex_digit, written, quoted_character, quoted_form}
use Rattle.graphql_text.specs.lexical.Tokens.{Punctuator, bang, dollar, amp, lparen, rparen, spread, colon, equals, at, lbracket, rbracket}
use Rattle.graphql_text.specs.lexical.Tokens.{lbrace, bar, rbrace, punctuator_text, Token, Punctuation, Name, IntValue, FloatValue}
use Rattle.graphql_text.specs.lexical.Tokens.{StringValue}
use Rattle.graphql_text.specs.layout.Layout.{Item, Word, StringItem, StringRole, wants_block, Space, Comma, Soft, Tight, Blank, Finish}
use Rattle.graphql_text.specs.layout.Layout.{Raise, Lower, IsBlankMode, break_text, string_text, word_text, text_of_items, layout}
use Rattle.graphql_text.specs.layout.Spelling.{StandsBefore}
use Rattle.graphql_text.proofs.layout.SpellingByParts.{Gives}
use Rattle.graphql_text.proofs.lexical.CharacterClasses.{list_all_each, below_space}
use Rattle.std.proofs.lemmas.Bool.{and_parts, and_from}
use Rattle.graphql_text.proofs.lexical.AsciiWords.{low_each, low_scalars, name_low, int_low, float_low}

scalars_append : (a b : List ℕ) → all_scalars a ≡ true → all_scalars b ≡ true →
    all_scalars (a ++ b) ≡ true
scalars_append [] b h k = k
scalars_append (c ∷ a) b h k =
    let parts = and_parts (scalar c) (all_scalars a) h in
    and_from (scalar c) (all_scalars (a ++ b)) parts.0 (scalars_append a b parts.1 k)

low_blank : (c : ℕ) → is_space_or_tab c ≡ true → c < 128
low_blank c h = grind (arith, nat_tests)

mark_scalars : (mark : Punctuator) → all_scalars (punctuator_text mark) ≡ true
mark_scalars bang = refl
mark_scalars dollar = refl
mark_scalars amp = refl
mark_scalars lparen = refl
mark_scalars rparen = refl
mark_scalars spread = refl
mark_scalars colon = refl
mark_scalars equals = refl
mark_scalars at = refl
mark_scalars lbracket = refl
mark_scalars rbracket = refl
mark_scalars lbrace = refl
mark_scalars bar = refl
mark_scalars rbrace = refl

-- THE QUOTED FORM

low_hex : (d : ℕ) → d < 32 → upper_hex_digit d < 55296
low_hex d h = go (nat_lt d 10)
  where
    go : (b : Bool) → cond b (0x30 + d) (0x37 + d) < 55296
    go true = omega (arith, h)
    go false = omega (arith, h)

character_scalars : (c : ℕ) → scalar c ≡ true → all_scalars (quoted_character c) ≡ true
character_scalars c h =
    by_test ((c == 0x22) || (c == 0x5C)) (Some c) _ (and_from (scalar c) true h refl)
    (by_test (c == 0x8) (Some 0x62) _ refl
    (by_test (c == 0xA) (Some 0x6E) _ refl (by_test (c == 0xC) (Some 0x66) _ refl (by_test (c == 0xD) (Some 0x72) None refl
    (plain (nat_lt c 0x20 && not (c == 0x9)) refl)))))
  where
    by_test : (b : Bool) (x y : Option ℕ) → all_scalars (written c x) ≡ true →
        all_scalars (written c y) ≡ true → all_scalars (written c (cond b x y)) ≡ true
    by_test true x y p q = p
    by_test false x y p q = q

    plain : (b : Bool) → (nat_lt c 0x20 && not (c == 0x9)) ≡ b →
        all_scalars (cond b (codes "\\u00" ++ (upper_hex_digit (c / 16) ∷ upper_hex_digit (c % 16) ∷ [])) (c ∷ [])) ≡ true
    plain true e =
        let less : c < 32 = below_space c e in
        and_from (scalar (upper_hex_digit (c / 16))) (all_scalars (upper_hex_digit (c % 16) ∷ []))
        (low_scalar (upper_hex_digit (c / 16)) (low_hex (c / 16) (omega (arith, less))))
        (and_from (scalar (upper_hex_digit (c % 16))) true (low_scalar (upper_hex_digit (c % 16)) (low_hex (c % 16) (omega (arith, less)))) refl)
    plain false e = and_from (scalar c) true h refl

characters_scalars : (value : List ℕ) → all_scalars value ≡ true →
    all_scalars (flat_map quoted_character value) ≡ true
characters_scalars [] h = refl
characters_scalars (c ∷ value) h =
    let parts = and_parts (scalar c) (all_scalars value) h in
    scalars_append (quoted_character c) (flat_map quoted_character value) (character_scalars c parts.0) (characters_scalars value parts.1)

quoted_scalars : (value : List ℕ) → all_scalars value ≡ true →
    all_scalars (quoted_form value) ≡ true
quoted_scalars value h =
    scalars_append (flat_map quoted_character value) (codes "\"") (characters_scalars value h) refl

-- THE BLOCK FORM

escape_scalars : (text : List ℕ) → all_scalars text ≡ true → all_scalars (escape_quotes text) ≡ true
escape_scalars [] h = refl
escape_scalars (a ∷ []) h = h
escape_scalars (a ∷ b ∷ []) h = h
escape_scalars (a ∷ b ∷ c ∷ text) h =
    let (first, more) = and_parts (scalar a) (all_scalars (b ∷ c ∷ text)) h in
    let (second, rest) = and_parts (scalar b) (all_scalars (c ∷ text)) more in
    let (third, last) = and_parts (scalar c) (all_scalars text) rest in
    go (is_quote a && is_quote b && is_quote c) first (escape_scalars text last) (escape_scalars (b ∷ c ∷ text) more)
  where
    go : (x : Bool) → scalar a ≡ true → all_scalars (escape_quotes text) ≡ true →
        all_scalars (escape_quotes (b ∷ c ∷ text)) ≡ true →
        all_scalars (if x then escaped_quotes ++ escape_quotes text else a ∷ escape_quotes (b ∷ c ∷ text)) ≡ true
    go true one past next = past
    go false one past next = and_from (scalar a) (all_scalars (escape_quotes (b ∷ c ∷ text))) one next

before_scalars : (c : ℕ) (lines : List (List ℕ)) → scalar c ≡ true →
    list_all all_scalars lines ≡ true → list_all all_scalars (onto_first c lines) ≡ true
before_scalars c [] h k = and_from (scalar c && true) true (and_from (scalar c) true h refl) refl
before_scalars c (line ∷ lines) h k =
    let parts = and_parts (all_scalars line) (list_all all_scalars lines) k in
    and_from (scalar c && all_scalars line) (list_all all_scalars lines) (and_from (scalar c) (all_scalars line) h parts.0) parts.1

lines_scalars : (text : List ℕ) → all_scalars text ≡ true →
    list_all all_scalars (lines_of text) ≡ true
lines_scalars [] h = refl
lines_scalars (c ∷ text) h =
    let parts = and_parts (scalar c) (all_scalars text) h in
    go (c == 10) parts.0 (lines_scalars text parts.1)
  where
    go : (b : Bool) → scalar c ≡ true → list_all all_scalars (lines_of text) ≡ true →
        list_all all_scalars (cond b ([] ∷ lines_of text) (onto_first c (lines_of text))) ≡ true
    go true one more = more
    go false one more = before_scalars c (lines_of text) one more

broken_scalars : (indent : List ℕ) (lines : List (List ℕ)) → all_scalars indent ≡ true →
    list_all all_scalars lines ≡ true → all_scalars (flat_map (broken_line indent) lines) ≡ true
broken_scalars indent [] h k = refl
broken_scalars indent ([] ∷ lines) h k = broken_scalars indent lines h k
broken_scalars indent ((c ∷ line) ∷ lines) h k =
    let parts = and_parts (all_scalars (c ∷ line)) (list_all all_scalars lines) k in
    scalars_append (indent ++ escape_quotes (c ∷ line)) (flat_map (broken_line indent) lines)
    (scalars_append indent (escape_quotes (c ∷ line)) h (escape_scalars (c ∷ line) parts.0)) (broken_scalars indent lines h parts.1)

block_scalars : (indent : List ℕ) (long : Bool) (value : List ℕ) → all_scalars indent ≡ true →
    all_scalars value ≡ true → all_scalars (block_form indent long value) ≡ true
block_scalars indent long value h k =
    go (list_any (λ c. c == 10) value || long || would_join_closing_quotes value)
  where
    go : (b : Bool) →
        all_scalars (if b then block_over_lines indent value else block_on_one_line value) ≡ true
    go true =
        scalars_append (flat_map (broken_line indent) (lines_of value)) (10 ∷ indent ++ quotes)
        (broken_scalars indent (lines_of value) h (lines_scalars value k)) (scalars_append indent quotes h refl)
    go false = scalars_append (escape_quotes value) quotes (escape_scalars value k) refl

-- LAYOUTS

blank_scalars : (prefix : List ℕ) → is_blank prefix ≡ true → all_scalars prefix ≡ true
blank_scalars prefix h =
    low_scalars prefix (low_each is_space_or_tab low_blank prefix (list_all_each is_space_or_tab prefix h))

repeat_scalars : (level : ℕ) (prefix : List ℕ) → all_scalars prefix ≡ true →
    all_scalars (repeat level prefix) ≡ true
repeat_scalars zero prefix h = refl
repeat_scalars (suc level) prefix h =
    scalars_append prefix (repeat level prefix) h (repeat_scalars level prefix h)

string_scalars : (mode : Option (List ℕ)) (level : ℕ) (value : List ℕ) (role : StringRole) →
    IsBlankMode mode → all_scalars value ≡ true →
    all_scalars (string_text mode level value role) ≡ true
string_scalars None level value role blank h = quoted_scalars value h
string_scalars (Some prefix) level value role blank h =
    go (wants_block role value && can_be_block value)
  where
    go : (b : Bool) →
        all_scalars (cond b (block_form (repeat level prefix) (nat_lt 70 (length (encode_utf8_all value))) value) (quoted_form value)) ≡ true
    go true =
        block_scalars (repeat level prefix) (nat_lt 70 (length (encode_utf8_all value))) value (repeat_scalars level prefix (blank_scalars prefix blank)) h
    go false = quoted_scalars value h

word_scalars : (word : Token) (items : List Item) → StandsBefore word items →
    all_scalars (word_text word) ≡ true
word_scalars (Punctuation mark) items h = mark_scalars mark
word_scalars (Name text) items h = low_scalars text (name_low text h.0)
word_scalars (IntValue text) items h = low_scalars text (int_low text h.0)
word_scalars (FloatValue text) items h = low_scalars text (float_low text h.0)
word_scalars (StringValue value) items h = quoted_scalars value h.0

break_scalars : (prefix : List ℕ) (level : ℕ) → is_blank prefix ≡ true →
    all_scalars (break_text prefix level) ≡ true
break_scalars prefix level h = repeat_scalars level prefix (blank_scalars prefix h)

laid_scalars : (mode : Option (List ℕ)) (s r l : ℕ) (items : List Item) (ts : List Token) →
    IsBlankMode mode → Gives items ts → all_scalars (text_of_items mode s r l items) ≡ true
unfolding text_of_items
laid_scalars mode s r l [] ts blank g = refl
laid_scalars mode s r l (Word word ∷ items) [] blank g = absurd g
laid_scalars mode s r l (Word word ∷ items) (t ∷ ts) blank g =
    scalars_append (word_text word) (text_of_items mode s (r + 0) (l + 0) items) (word_scalars word items g.1)
    (laid_scalars mode s (r + 0) (l + 0) items ts blank g.2)
laid_scalars mode s r l (StringItem value role ∷ items) [] blank g = absurd g
laid_scalars mode s r l (StringItem value role ∷ items) (t ∷ ts) blank g =
    scalars_append (string_text mode (s + r - l) value role) (text_of_items mode s (r + 0) (l + 0) items)
    (string_scalars mode (s + r - l) value role blank g.1.0) (laid_scalars mode s (r + 0) (l + 0) items ts blank g.2)
laid_scalars mode s r l (Space ∷ items) ts blank g =
    laid_scalars mode s (r + 0) (l + 0) items ts blank g
laid_scalars mode s r l (Comma ∷ items) ts blank g =
    laid_scalars mode s (r + 0) (l + 0) items ts blank g
laid_scalars (Some prefix) s r l (Soft ∷ items) ts blank g =
    scalars_append (break_text prefix (s + r - l)) (text_of_items (Some prefix) s (r + 0) (l + 0) items)
    (break_scalars prefix (s + r - l) blank) (laid_scalars (Some prefix) s (r + 0) (l + 0) items ts blank g)
laid_scalars None s r l (Soft ∷ items) ts blank g =
    laid_scalars None s (r + 0) (l + 0) items ts blank g
laid_scalars (Some prefix) s r l (Tight ∷ items) ts blank g =
    scalars_append (break_text prefix (s + r - l)) (text_of_items (Some prefix) s (r + 0) (l + 0) items)
    (break_scalars prefix (s + r - l) blank) (laid_scalars (Some prefix) s (r + 0) (l + 0) items ts blank g)
laid_scalars None s r l (Tight ∷ items) ts blank g =
    laid_scalars None s (r + 0) (l + 0) items ts blank g
laid_scalars (Some prefix) s r l (Blank ∷ items) ts blank g =
    scalars_append (break_text prefix (s + r - l)) (text_of_items (Some prefix) s (r + 0) (l + 0) items)
    (break_scalars prefix (s + r - l) blank) (laid_scalars (Some prefix) s (r + 0) (l + 0) items ts blank g)
laid_scalars None s r l (Blank ∷ items) ts blank g =
    laid_scalars None s (r + 0) (l + 0) items ts blank g
laid_scalars (Some prefix) s r l (Finish ∷ items) ts blank g =
    laid_scalars (Some prefix) s (r + 0) (l + 0) items ts blank g
laid_scalars None s r l (Finish ∷ items) ts blank g =
    laid_scalars None s (r + 0) (l + 0) items ts blank g
laid_scalars (Some prefix) s r l (Raise ∷ items) ts blank g =
    laid_scalars (Some prefix) s (r + 1) (l + 0) items ts blank g
laid_scalars None s r l (Raise ∷ items) ts blank g =
    laid_scalars None s (r + 1) (l + 0) items ts blank g
laid_scalars (Some prefix) s r l (Lower ∷ items) ts blank g =
    laid_scalars (Some prefix) s (r + 0) (l + 1) items ts blank g
laid_scalars None s r l (Lower ∷ items) ts blank g =
    laid_scalars None s (r + 0) (l + 1) items ts blank g

pub layout_scalars : (mode : Option (List ℕ)) (level : ℕ) (items : List Item) (ts : List Token) →
    IsBlankMode mode → Gives items ts → all_scalars (layout mode level items) ≡ true
layout_scalars None level items ts blank g = laid_scalars None level 0 0 items ts blank g
layout_scalars (Some prefix) level items ts blank g =
    scalars_append (repeat level prefix) (text_of_items (Some prefix) level 0 0 items)
    (repeat_scalars level prefix (blank_scalars prefix blank)) (laid_scalars (Some prefix) level 0 0 items ts blank g)
