-- The lines of a layout are indented under a prefix, and without one there are none.
use Rattle.std.proofs.lemmas.Bool.{and_parts, and_from}
use Rattle.std.proofs.Common.{ℕ, zero, suc, ◌+◌, ◌-◌, ◌≡◌, Bool, true, false, cond, ◌&&◌, ◌==◌, List, [], ◌∷◌, ◌++◌, codes, length, nat_lt}
use Rattle.std.proofs.Common.{encode_utf8_all, Some, None, refl, sym, ◌∙◌, arith, subst}
use Rattle.std.proofs.lemmas.Bool.Decides.{nat_tests}
use Rattle.std.specs.List.{list_all, repeat}
use Rattle.graphql_base.specs.Names.{begins_in}
use Rattle.graphql_text.specs.lexical.Characters.{is_line_terminator, is_quote}
use Rattle.graphql_text.specs.strings.BlockStringValue.{is_blank}
use Rattle.graphql_text.specs.strings.BlockForm.{can_be_block, block_text}
use Rattle.graphql_text.specs.strings.QuotedForm.{quoted_form}
use Rattle.graphql_text.specs.lexical.Tokens.{bang, dollar, amp, lparen, rparen, spread, colon, equals, at, lbracket, rbracket, lbrace, bar}
use Rattle.graphql_text.specs.lexical.Tokens.{rbrace, Token, Punctuation, Name, IntValue, FloatValue, StringValue}
use Rattle.graphql_text.specs.layout.Layout.{Item, Word, StringItem, StringRole, AsValue, AsDescription, OnOneLine, wants_block, Space}
use Rattle.graphql_text.specs.layout.Layout.{Comma, Soft, Tight, Blank, Finish, Raise, Lower, word_text, string_text, text_of_items, layout}
use Rattle.graphql_text.specs.layout.Spelling.{leaves_room, StandsBefore}
use Rattle.graphql_text.proofs.layout.SpellingByParts.{Gives}
use Rattle.graphql_text.specs.layout.Lines.{Outside, next_state, next_depth, closes_bracket, LinesAreIndented, HasNoLineBreak}
use Rattle.graphql_text.proofs.lexical.FollowingCharacters.{goes_on, not_joins_not_quote}
use Rattle.graphql_text.proofs.reader.NumbersRead.{begins_fewer}
use Rattle.graphql_text.proofs.layout.LayoutLexes.{room_joins}
use Rattle.graphql_text.proofs.lexical.WordCharacters.{is_word_character, name_characters, int_characters, float_characters}
use Rattle.graphql_text.proofs.layout.LineScan.{closing_line, is_quiet, stays_indented, step, quiet_text, line_feed, line_break, whole_text}
use Rattle.graphql_text.proofs.layout.LineScanOfStrings.{breaks_not_append, quoted_breaks_not, quoted_step}
use Rattle.graphql_text.proofs.layout.LineScanOfBlockStrings.{block_step}
use Rattle.graphql_text.proofs.layout.BracketsByParts.{effect, closes_first, may_break, fits_effect, fits}

word_quiet : (c : ℕ) → is_word_character c ≡ true → is_quiet c ≡ true
word_quiet c h = grind (arith, nat_tests)

words_quiet : (text : List ℕ) → list_all is_word_character text ≡ true → list_all is_quiet text ≡ true
words_quiet [] h = refl
words_quiet (c ∷ text) h =
    let (here, more) = and_parts (is_word_character c) (list_all is_word_character text) h in
    and_from (is_quiet c) (list_all is_quiet text) (word_quiet c here) (words_quiet text more)

module _ (prefix : List ℕ) (level : ℕ) (blank : is_blank prefix ≡ true) where
  -- behind items, outside strings, where so many brackets are open
  abbrev Goes : ℕ → List ℕ → Type 0
  Goes depth text = stays_indented prefix level Outside depth text ≡ true

  goes_at : (depth depth' : ℕ) (text : List ℕ) → depth ≡ depth' → Goes depth' text → Goes depth text
  goes_at depth depth' text e h = subst (λ d. Goes d text) (sym e) h

  block_or_quoted : (times k : ℕ) (value text : List ℕ) → begins_in is_quote text ≡ false → level + k ≡ times → (b : Bool) →
      Goes (k + 0) text → Goes (k + 0) (cond b (block_text prefix times value) (quoted_form value) ++ text)
  block_or_quoted times k value text q e true more =
      block_step prefix level (k + 0) times text blank (omega (arith, e)) more (nat_lt 70 (length (encode_utf8_all value))) value
  block_or_quoted times k value text q e false more = quoted_step prefix level (k + 0) value text q ∙ more

  opening_step : (uncounted counted c : ℕ) (text : List ℕ) → (c == 10) ≡ false → next_state Outside c ≡ Outside →
      next_depth Outside (counted + uncounted) c ≡ counted + uncounted + 1 → Goes (counted + suc uncounted) text →
      Goes (counted + uncounted) (c ∷ text)
  opening_step u k c text no_lf state depth h =
      step prefix level Outside (k + u) c text no_lf ∙ rw (state, depth) (goes_at (k + u + 1) (k + suc u) text (omega arith) h)

  closing_step : (uncounted counted c : ℕ) (text : List ℕ) → (c == 10) ≡ false → next_state Outside c ≡ Outside →
      next_depth Outside (counted + suc uncounted) c ≡ counted + suc uncounted - 1 → Goes (counted + uncounted) text →
      Goes (counted + suc uncounted) (c ∷ text)
  closing_step u k c text no_lf state depth h =
      step prefix level Outside (k + suc u) c text no_lf ∙ rw (state, depth) (goes_at (k + suc u - 1) (k + u) text (omega arith) h)

  -- a word
  word_step : (u k : ℕ) (word : Token) (items : List Item) (text : List ℕ) → StandsBefore word items →
      (leaves_room items ≡ true → begins_in is_quote text ≡ false) →
      fits_effect (effect (Word word)) u k items (λ u k. fits u k items) ≡ true → ((v : ℕ) → fits v k items ≡ true → Goes (k + v) text) →
      Goes (k + u) (word_text word ++ text)
  word_step u k (Punctuation bang) items text s q h more = quiet_text prefix level (k + u) (codes "!") text refl ∙ more u h
  word_step u k (Punctuation dollar) items text s q h more = quiet_text prefix level (k + u) (codes "$") text refl ∙ more u h
  word_step u k (Punctuation amp) items text s q h more = quiet_text prefix level (k + u) (codes "&") text refl ∙ more u h
  word_step u k (Punctuation lparen) items text s q h more = opening_step u k 40 text refl refl refl (more (suc u) h)
  word_step zero k (Punctuation rparen) items text s q h more = cc
  word_step (suc u) k (Punctuation rparen) items text s q h more = closing_step u k 41 text refl refl refl (more u h)
  word_step u k (Punctuation spread) items text s q h more = quiet_text prefix level (k + u) (codes "...") text refl ∙ more u h
  word_step u k (Punctuation colon) items text s q h more = quiet_text prefix level (k + u) (codes ":") text refl ∙ more u h
  word_step u k (Punctuation equals) items text s q h more = quiet_text prefix level (k + u) (codes "=") text refl ∙ more u h
  word_step u k (Punctuation at) items text s q h more = quiet_text prefix level (k + u) (codes "@") text refl ∙ more u h
  word_step u k (Punctuation lbracket) items text s q h more = opening_step u k 91 text refl refl refl (more (suc u) h)
  word_step zero k (Punctuation rbracket) items text s q h more = cc
  word_step (suc u) k (Punctuation rbracket) items text s q h more = closing_step u k 93 text refl refl refl (more u h)
  word_step u k (Punctuation lbrace) items text s q h more = opening_step u k 123 text refl refl refl (more (suc u) h)
  word_step u k (Punctuation bar) items text s q h more = quiet_text prefix level (k + u) (codes "|") text refl ∙ more u h
  word_step zero k (Punctuation rbrace) items text s q h more = cc
  word_step (suc u) k (Punctuation rbrace) items text s q h more = closing_step u k 125 text refl refl refl (more u h)
  word_step u k (Name name) items text s q h more = quiet_text prefix level (k + u) name text (words_quiet name (name_characters name s.0)) ∙ more u h
  word_step u k (IntValue int) items text s q h more = quiet_text prefix level (k + u) int text (words_quiet int (int_characters int s.0)) ∙ more u h
  word_step u k (FloatValue float) items text s q h more =
      quiet_text prefix level (k + u) float text (words_quiet float (float_characters float s.0)) ∙ more u h
  word_step u k (StringValue value) items text s q h more = quoted_step prefix level (k + u) value text (q s.1) ∙ more u h

  -- a string
  string_step : (times u k : ℕ) (value text : List ℕ) (role : StringRole) (items : List Item) → begins_in is_quote text ≡ false → level + k ≡ times →
      fits_effect (effect (StringItem value role)) u k items (λ u k. fits u k items) ≡ true →
      ((v : ℕ) → fits v k items ≡ true → Goes (k + v) text) → Goes (k + u) (string_text (Some prefix) times value role ++ text)
  string_step times u k value text OnOneLine items q e h more = quoted_step prefix level (k + u) value text q ∙ more u h
  string_step times zero k value text AsValue items q e h more =
      block_or_quoted times k value text q e (wants_block AsValue value && can_be_block value) (more 0 h)
  string_step times (suc u) k value text AsValue items q e h more = cc
  string_step times zero k value text AsDescription items q e h more =
      block_or_quoted times k value text q e (wants_block AsDescription value && can_be_block value) (more 0 h)
  string_step times (suc u) k value text AsDescription items q e h more = cc

  closing_begins : (r l : ℕ) (items : List Item) → closes_first items ≡ true → begins_in closes_bracket (text_of_items (Some prefix) level r l items) ≡ true
  unfolding text_of_items
  closing_begins r l [] h = cc
  closing_begins r l (Word (Punctuation rparen) ∷ items) h = refl
  closing_begins r l (Word (Punctuation rbracket) ∷ items) h = refl
  closing_begins r l (Word (Punctuation rbrace) ∷ items) h = refl
  closing_begins r l (StringItem value AsValue ∷ items) h = cc
  closing_begins r l (StringItem value AsDescription ∷ items) h = cc
  closing_begins r l (StringItem value OnOneLine ∷ items) h = cc
  closing_begins r l (item ∷ items) h = cc

  -- a break before items
  break_step : (r l times u k : ℕ) (items : List Item) → level + k ≡ times → may_break u items ≡ true →
      Goes (k + u) (text_of_items (Some prefix) level r l items) →
      Goes (k + u) (10 ∷ (repeat times prefix ++ text_of_items (Some prefix) level r l items))
  break_step r l times zero k items e h more =
      line_break prefix level Outside (k + 0) times (text_of_items (Some prefix) level r l items) blank refl
      (λ line lines is. omega (arith, e)) more
  break_step r l times (suc zero) k items e h more =
      line_break prefix level Outside (k + 1) times (text_of_items (Some prefix) level r l items) blank refl
      (λ line lines is. rw (closing_line (text_of_items (Some prefix) level r l items) line lines (closing_begins r l items h) is) (omega (arith, e))) more
  break_step r l times (suc (suc u)) k items e h more = cc

  items_step : (r l u k : ℕ) (items : List Item) (tokens : List Token) → Gives items tokens → fits u k items ≡ true → r ≡ l + k →
      Goes (k + u) (text_of_items (Some prefix) level r l items)
  unfolding text_of_items fits
  items_step r l u k [] tokens g h e = refl
  items_step r l u k (Word word ∷ items) [] g h e = absurd g
  items_step r l u k (Word word ∷ items) (token ∷ tokens) g h e =
      word_step u k word items (text_of_items (Some prefix) level (r + 0) (l + 0) items) g.1
      (λ room.
      begins_fewer goes_on is_quote (text_of_items (Some prefix) level (r + 0) (l + 0) items) not_joins_not_quote
      (room_joins (Some prefix) level (r + 0) (l + 0) items room))
      h (λ v f. items_step (r + 0) (l + 0) v k items tokens g.2 f (omega (arith, e)))
  items_step r l u k (StringItem value role ∷ items) [] g h e = absurd g
  items_step r l u k (StringItem value role ∷ items) (token ∷ tokens) g h e =
      string_step (level + r - l) u k value (text_of_items (Some prefix) level (r + 0) (l + 0) items) role items
      (begins_fewer goes_on is_quote (text_of_items (Some prefix) level (r + 0) (l + 0) items) not_joins_not_quote
      (room_joins (Some prefix) level (r + 0) (l + 0) items g.1.1))
      (omega (arith, e)) h (λ v f. items_step (r + 0) (l + 0) v k items tokens g.2 f (omega (arith, e)))
  items_step r l u k (Space ∷ items) tokens g h e =
      quiet_text prefix level (k + u) (codes " ") (text_of_items (Some prefix) level (r + 0) (l + 0) items) refl
      ∙ items_step (r + 0) (l + 0) u k items tokens g h (omega (arith, e))
  items_step r l u k (Comma ∷ items) tokens g h e =
      quiet_text prefix level (k + u) (codes ",") (text_of_items (Some prefix) level (r + 0) (l + 0) items) refl
      ∙ items_step (r + 0) (l + 0) u k items tokens g h (omega (arith, e))
  items_step r l u k (Soft ∷ items) tokens g h e =
      let (place, more) = and_parts (may_break u items) (fits u k items) h in
      break_step (r + 0) (l + 0) (level + r - l) u k items (omega (arith, e)) place (items_step (r + 0) (l + 0) u k items tokens g more (omega (arith, e)))
  items_step r l u k (Tight ∷ items) tokens g h e =
      let (place, more) = and_parts (may_break u items) (fits u k items) h in
      break_step (r + 0) (l + 0) (level + r - l) u k items (omega (arith, e)) place (items_step (r + 0) (l + 0) u k items tokens g more (omega (arith, e)))
  items_step r l u k (Blank ∷ items) tokens g h e =
      let (place, more) = and_parts (may_break u items) (fits u k items) h in
      line_feed prefix level Outside (k + u) (10 ∷ (repeat (level + r - l) prefix ++ text_of_items (Some prefix) level (r + 0) (l + 0) items)) refl
      (break_step (r + 0) (l + 0) (level + r - l) u k items (omega (arith, e)) place (items_step (r + 0) (l + 0) u k items tokens g more (omega (arith, e))))
  items_step r l zero k (Finish ∷ []) tokens g h e = line_feed prefix level Outside (k + 0) [] refl refl
  items_step r l zero k (Finish ∷ item ∷ items) tokens g h e = cc
  items_step r l (suc u) k (Finish ∷ items) tokens g h e = cc
  items_step r l zero k (Raise ∷ items) tokens g h e = cc
  items_step r l (suc u) k (Raise ∷ items) tokens g h e =
      goes_at (k + suc u) (suc k + u) (text_of_items (Some prefix) level (r + 1) (l + 0) items) (omega arith)
      (items_step (r + 1) (l + 0) u (suc k) items tokens g h (omega (arith, e)))
  items_step r l u zero (Lower ∷ items) tokens g h e = cc
  items_step r l u (suc k) (Lower ∷ items) tokens g h e =
      goes_at (suc k + u) (k + suc u) (text_of_items (Some prefix) level (r + 0) (l + 1) items) (omega arith)
      (items_step (r + 0) (l + 1) (suc u) k items tokens g h (omega (arith, e)))

  -- Each line of a layout is indented, where its brackets and marks fit.
  pub lines_indented : (items : List Item) (tokens : List Token) → Gives items tokens → fits 0 0 items ≡ true →
      LinesAreIndented prefix level (layout (Some prefix) level items)
  lines_indented items tokens g h = whole_text prefix level (text_of_items (Some prefix) level 0 0 items) blank (items_step 0 0 0 0 items tokens g h refl)

-- WITHOUT A PREFIX

word_breaks_not : (c : ℕ) → is_word_character c ≡ true → is_line_terminator c ≡ false
word_breaks_not c h = grind (arith, nat_tests)

words_break_not : (text : List ℕ) → list_all is_word_character text ≡ true → HasNoLineBreak text
words_break_not [] h = refl
words_break_not (c ∷ text) h =
    let (here, more) = and_parts (is_word_character c) (list_all is_word_character text) h in
    rw (word_breaks_not c here) (words_break_not text more)

token_breaks_not : (word : Token) (items : List Item) → StandsBefore word items → HasNoLineBreak (word_text word)
token_breaks_not (Punctuation bang) items s = refl
token_breaks_not (Punctuation dollar) items s = refl
token_breaks_not (Punctuation amp) items s = refl
token_breaks_not (Punctuation lparen) items s = refl
token_breaks_not (Punctuation rparen) items s = refl
token_breaks_not (Punctuation spread) items s = refl
token_breaks_not (Punctuation colon) items s = refl
token_breaks_not (Punctuation equals) items s = refl
token_breaks_not (Punctuation at) items s = refl
token_breaks_not (Punctuation lbracket) items s = refl
token_breaks_not (Punctuation rbracket) items s = refl
token_breaks_not (Punctuation lbrace) items s = refl
token_breaks_not (Punctuation bar) items s = refl
token_breaks_not (Punctuation rbrace) items s = refl
token_breaks_not (Name name) items s = words_break_not name (name_characters name s.0)
token_breaks_not (IntValue int) items s = words_break_not int (int_characters int s.0)
token_breaks_not (FloatValue float) items s = words_break_not float (float_characters float s.0)
token_breaks_not (StringValue value) items s = quoted_breaks_not value

items_break_not : (s r l : ℕ) (items : List Item) (tokens : List Token) → Gives items tokens → HasNoLineBreak (text_of_items None s r l items)
unfolding text_of_items
items_break_not s r l [] tokens g = refl
items_break_not s r l (Word word ∷ items) [] g = absurd g
items_break_not s r l (Word word ∷ items) (token ∷ tokens) g =
    breaks_not_append (word_text word) (text_of_items None s (r + 0) (l + 0) items) (token_breaks_not word items g.1)
    (items_break_not s (r + 0) (l + 0) items tokens g.2)
items_break_not s r l (StringItem value role ∷ items) [] g = absurd g
items_break_not s r l (StringItem value role ∷ items) (token ∷ tokens) g =
    breaks_not_append (quoted_form value) (text_of_items None s (r + 0) (l + 0) items) (quoted_breaks_not value)
    (items_break_not s (r + 0) (l + 0) items tokens g.2)
items_break_not s r l (Space ∷ items) tokens g = items_break_not s (r + 0) (l + 0) items tokens g
items_break_not s r l (Comma ∷ items) tokens g = items_break_not s (r + 0) (l + 0) items tokens g
items_break_not s r l (Soft ∷ items) tokens g = items_break_not s (r + 0) (l + 0) items tokens g
items_break_not s r l (Tight ∷ items) tokens g = items_break_not s (r + 0) (l + 0) items tokens g
items_break_not s r l (Blank ∷ items) tokens g = items_break_not s (r + 0) (l + 0) items tokens g
items_break_not s r l (Finish ∷ items) tokens g = items_break_not s (r + 0) (l + 0) items tokens g
items_break_not s r l (Raise ∷ items) tokens g = items_break_not s (r + 1) (l + 0) items tokens g
items_break_not s r l (Lower ∷ items) tokens g = items_break_not s (r + 0) (l + 1) items tokens g

-- The layout of items on one line has no line break.
pub no_line_break : (level : ℕ) (items : List Item) (tokens : List Token) → Gives items tokens → HasNoLineBreak (layout None level items)
no_line_break level items tokens g = items_break_not level 0 0 items tokens g
