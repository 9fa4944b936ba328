-- The text of items lexes as the tokens that they give, under every prefix of spaces and tabs, and on one line.
use Rattle.std.proofs.Common.{◌≡◌, ℕ, ◌+◌, ◌-◌, Bool, true, false, cond, ◌&&◌, List, [], ◌∷◌, ◌++◌, codes, Option, Some, None, refl, length}
use Rattle.std.proofs.Common.{nat_lt, encode_utf8_all, inr}
use Rattle.std.specs.List.{repeat}
use Rattle.graphql_text.specs.lexical.Characters.{is_space_or_tab, is_ignored, follows_no_number, is_quote}
use Rattle.graphql_text.proofs.lexical.FollowingCharacters.{goes_on, not_joins_not_name, not_joins_not_number, not_joins_not_quote}
use Rattle.graphql_text.proofs.lexical.CharacterClasses.{Each}
use Rattle.graphql_base.specs.Names.{is_name_continue, begins_in}
use Rattle.graphql_text.specs.strings.BlockStringValue.{is_blank}
use Rattle.graphql_text.specs.strings.BlockForm.{can_be_block, block_form}
use Rattle.graphql_text.specs.strings.QuotedForm.{quoted_form}
use Rattle.graphql_text.specs.lexical.Tokens.{bang, dollar, amp, lparen, rparen, spread, colon, equals, at, lbracket, rbracket, lbrace, bar}
use Rattle.graphql_text.specs.lexical.Tokens.{rbrace, Token, Punctuation, Name, IntValue, FloatValue, StringValue, nothing, Spells, Lexes}
use Rattle.graphql_text.specs.layout.Layout.{Item, Word, StringItem, StringRole, wants_block, Space, Comma, Soft, Tight, Blank, Finish}
use Rattle.graphql_text.specs.layout.Layout.{Raise, Lower, IsBlankMode, break_text, string_text, word_text, text_of_items, layout}
use Rattle.graphql_text.specs.layout.Spelling.{leaves_room, StandsBefore}
use Rattle.graphql_text.proofs.layout.SpellingByParts.{Gives}
use Rattle.graphql_text.proofs.reader.NumbersRead.{begins_fewer}
use Rattle.graphql_text.proofs.general.BooleanTests.{second_holds}
use Rattle.graphql_text.proofs.lexical.LexesAppend.{lexes-append, lexes-token, ignored_before}
use Rattle.graphql_text.proofs.strings.QuotedFormSpells.{form_spells}
use Rattle.graphql_text.proofs.strings.BlockFormSpells.{blank_repeat, block_form_is}

-- items that leave room begin with nothing that joins
pub room_joins : (mode : Option (List ℕ)) (start raised lowered : ℕ) (items : List Item) →
    leaves_room items ≡ true →
    begins_in goes_on (text_of_items mode start raised lowered items) ≡ false
unfolding text_of_items
room_joins mode s r l [] h = refl
room_joins mode s r l (Word (Punctuation bang) ∷ items) h = refl
room_joins mode s r l (Word (Punctuation dollar) ∷ items) h = refl
room_joins mode s r l (Word (Punctuation amp) ∷ items) h = refl
room_joins mode s r l (Word (Punctuation lparen) ∷ items) h = refl
room_joins mode s r l (Word (Punctuation rparen) ∷ items) h = refl
room_joins mode s r l (Word (Punctuation spread) ∷ items) h = cc
room_joins mode s r l (Word (Punctuation colon) ∷ items) h = refl
room_joins mode s r l (Word (Punctuation equals) ∷ items) h = refl
room_joins mode s r l (Word (Punctuation at) ∷ items) h = refl
room_joins mode s r l (Word (Punctuation lbracket) ∷ items) h = refl
room_joins mode s r l (Word (Punctuation rbracket) ∷ items) h = refl
room_joins mode s r l (Word (Punctuation lbrace) ∷ items) h = refl
room_joins mode s r l (Word (Punctuation bar) ∷ items) h = refl
room_joins mode s r l (Word (Punctuation rbrace) ∷ items) h = refl
room_joins mode s r l (Word (Name text) ∷ items) h = cc
room_joins mode s r l (Word (IntValue text) ∷ items) h = cc
room_joins mode s r l (Word (FloatValue text) ∷ items) h = cc
room_joins mode s r l (Word (StringValue text) ∷ items) h = cc
room_joins mode s r l (StringItem value role ∷ items) h = cc
room_joins mode s r l (Space ∷ items) h = refl
room_joins mode s r l (Comma ∷ items) h = refl
room_joins (Some prefix) s r l (Soft ∷ items) h = refl
room_joins None s r l (Soft ∷ items) h = refl
room_joins (Some prefix) s r l (Tight ∷ items) h = refl
room_joins None s r l (Tight ∷ items) h = room_joins None s (r + 0) (l + 0) items h
room_joins (Some prefix) s r l (Blank ∷ items) h = refl
room_joins None s r l (Blank ∷ items) h = refl
room_joins (Some prefix) s r l (Finish ∷ items) h = refl
room_joins None s r l (Finish ∷ items) h = room_joins None s (r + 0) (l + 0) items h
room_joins (Some prefix) s r l (Raise ∷ items) h =
    room_joins (Some prefix) s (r + 1) (l + 0) items h
room_joins None s r l (Raise ∷ items) h = room_joins None s (r + 1) (l + 0) items h
room_joins (Some prefix) s r l (Lower ∷ items) h =
    room_joins (Some prefix) s (r + 0) (l + 1) items h
room_joins None s r l (Lower ∷ items) h = room_joins None s (r + 0) (l + 1) items h

-- a word that may stand before items is spelled by its text before theirs
word_spells : (mode : Option (List ℕ)) (s r l : ℕ) (word : Token) (items : List Item) →
    StandsBefore word items → Spells word (word_text word) (text_of_items mode s r l items)
word_spells mode s r l (Punctuation mark) items h = refl
word_spells mode s r l (Name text) items h =
    (h.0, refl, begins_fewer goes_on is_name_continue (text_of_items mode s r l items) not_joins_not_name (room_joins mode s r l items h.1))
word_spells mode s r l (IntValue text) items h =
    (h.0, refl, begins_fewer goes_on follows_no_number (text_of_items mode s r l items) not_joins_not_number (room_joins mode s r l items h.1))
word_spells mode s r l (FloatValue text) items h =
    (h.0, refl, begins_fewer goes_on follows_no_number (text_of_items mode s r l items) not_joins_not_number (room_joins mode s r l items h.1))
word_spells mode s r l (StringValue value) items h =
    form_spells value (text_of_items mode s r l items)
    (begins_fewer goes_on is_quote (text_of_items mode s r l items) not_joins_not_quote (room_joins mode s r l items h.1))

-- the text of a string, in either form, is a spelling of its value
pub string_spells :
    (mode : Option (List ℕ)) (level : ℕ) (value : List ℕ) (role : StringRole) (after : List ℕ) →
    IsBlankMode mode → begins_in is_quote after ≡ false →
    Spells (StringValue value) (string_text mode level value role) after
string_spells None level value role after blank stops = form_spells value after stops
string_spells (Some prefix) level value role after blank stops =
    go ((wants_block role value) && can_be_block value) refl
  where
    go : (b : Bool) → ((wants_block role value) && can_be_block value) ≡ b →
        Spells (StringValue value) (cond b (block_form (repeat level prefix) (nat_lt 70 (length (encode_utf8_all value))) value) (quoted_form value)) after
    go true e =
        inr (block_form_is prefix level (nat_lt 70 (length (encode_utf8_all value))) value blank (second_holds (wants_block role value) (can_be_block value) e))
    go false e = form_spells value after stops

blank_ignored : (text : List ℕ) → is_blank text ≡ true → Each is_ignored text
blank_ignored [] h = tt
blank_ignored (c ∷ text) h = go (is_space_or_tab c) (is_blank text) refl h (blank_ignored text)
  where
    go : (a b : Bool) → is_space_or_tab c ≡ a → (a && b) ≡ true →
        (b ≡ true → Each is_ignored text) → Each is_ignored (c ∷ text)
    go true b e h more = (rw e refl, more h)
    go false b e h more = cc

break_ignored : (prefix : List ℕ) (level : ℕ) → is_blank prefix ≡ true →
    Each is_ignored (break_text prefix level)
break_ignored prefix level h =
    (refl, blank_ignored (repeat level prefix) (blank_repeat level prefix h))

-- ignored characters before a text
ignored_front : (text : List ℕ) (ts : List Token) (rest : List ℕ) → Each is_ignored text →
    Lexes rest ts → Lexes (text ++ rest) ts
ignored_front text ts rest list_of lexes =
    lexes-append [] ts text rest (ignored_before text rest list_of) lexes

pub laid_lexes : (mode : Option (List ℕ)) (s r l : ℕ) (items : List Item) (ts : List Token) →
    IsBlankMode mode → Gives items ts → Lexes (text_of_items mode s r l items) ts
unfolding text_of_items
laid_lexes mode s r l [] ts blank g = rw g nothing
laid_lexes mode s r l (Word word ∷ items) [] blank g = absurd g
laid_lexes mode s r l (Word word ∷ items) (t ∷ ts) blank g =
    rw g.0 (lexes-token word ts (word_text word) (text_of_items mode s (r + 0) (l + 0) items)
    (word_spells mode s (r + 0) (l + 0) word items g.1) (laid_lexes mode s (r + 0) (l + 0) items ts blank g.2))
laid_lexes mode s r l (StringItem value role ∷ items) [] blank g = absurd g
laid_lexes mode s r l (StringItem value role ∷ items) (t ∷ ts) blank g =
    let rest = text_of_items mode s (r + 0) (l + 0) items in
    rw g.0 (lexes-token (StringValue value) ts (string_text mode (s + r - l) value role) rest
    (string_spells mode (s + r - l) value role rest blank
    (begins_fewer goes_on is_quote rest not_joins_not_quote (room_joins mode s (r + 0) (l + 0) items g.1.1)))
    (laid_lexes mode s (r + 0) (l + 0) items ts blank g.2))
laid_lexes mode s r l (Space ∷ items) ts blank g =
    ignored_front (codes " ") ts (text_of_items mode s (r + 0) (l + 0) items) (refl, tt) (laid_lexes mode s (r + 0) (l + 0) items ts blank g)
laid_lexes mode s r l (Comma ∷ items) ts blank g =
    ignored_front (codes ",") ts (text_of_items mode s (r + 0) (l + 0) items) (refl, tt) (laid_lexes mode s (r + 0) (l + 0) items ts blank g)
laid_lexes (Some prefix) s r l (Soft ∷ items) ts blank g =
    ignored_front (break_text prefix (s + r - l)) ts (text_of_items (Some prefix) s (r + 0) (l + 0) items)
    (break_ignored prefix (s + r - l) blank) (laid_lexes (Some prefix) s (r + 0) (l + 0) items ts blank g)
laid_lexes None s r l (Soft ∷ items) ts blank g =
    ignored_front (codes " ") ts (text_of_items None s (r + 0) (l + 0) items) (refl, tt) (laid_lexes None s (r + 0) (l + 0) items ts blank g)
laid_lexes (Some prefix) s r l (Tight ∷ items) ts blank g =
    ignored_front (break_text prefix (s + r - l)) ts (text_of_items (Some prefix) s (r + 0) (l + 0) items)
    (break_ignored prefix (s + r - l) blank) (laid_lexes (Some prefix) s (r + 0) (l + 0) items ts blank g)
laid_lexes None s r l (Tight ∷ items) ts blank g =
    laid_lexes None s (r + 0) (l + 0) items ts blank g
laid_lexes (Some prefix) s r l (Blank ∷ items) ts blank g =
    ignored_front (10 ∷ break_text prefix (s + r - l)) ts (text_of_items (Some prefix) s (r + 0) (l + 0) items)
    (refl, break_ignored prefix (s + r - l) blank) (laid_lexes (Some prefix) s (r + 0) (l + 0) items ts blank g)
laid_lexes None s r l (Blank ∷ items) ts blank g =
    ignored_front (codes " ") ts (text_of_items None s (r + 0) (l + 0) items) (refl, tt) (laid_lexes None s (r + 0) (l + 0) items ts blank g)
laid_lexes (Some prefix) s r l (Finish ∷ items) ts blank g =
    ignored_front (codes "\n") ts (text_of_items (Some prefix) s (r + 0) (l + 0) items) (refl, tt) (laid_lexes (Some prefix) s (r + 0) (l + 0) items ts blank g)
laid_lexes None s r l (Finish ∷ items) ts blank g =
    laid_lexes None s (r + 0) (l + 0) items ts blank g
laid_lexes (Some prefix) s r l (Raise ∷ items) ts blank g =
    laid_lexes (Some prefix) s (r + 1) (l + 0) items ts blank g
laid_lexes None s r l (Raise ∷ items) ts blank g =
    laid_lexes None s (r + 1) (l + 0) items ts blank g
laid_lexes (Some prefix) s r l (Lower ∷ items) ts blank g =
    laid_lexes (Some prefix) s (r + 0) (l + 1) items ts blank g
laid_lexes None s r l (Lower ∷ items) ts blank g =
    laid_lexes None s (r + 0) (l + 1) items ts blank g

-- the whole layout, its front too
pub layout_lexes : (mode : Option (List ℕ)) (level : ℕ) (items : List Item) (ts : List Token) →
    IsBlankMode mode → Gives items ts → Lexes (layout mode level items) ts
layout_lexes None level items ts blank g = laid_lexes None level 0 0 items ts blank g
layout_lexes (Some prefix) level items ts blank g =
    ignored_front (repeat level prefix) ts (text_of_items (Some prefix) level 0 0 items)
    (blank_ignored (repeat level prefix) (blank_repeat level prefix blank)) (laid_lexes (Some prefix) level 0 0 items ts blank g)
