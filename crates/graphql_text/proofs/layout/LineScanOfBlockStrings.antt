-- How a scan of lines goes over a block string.
use Rattle.std.proofs.lemmas.Bool.{and_parts, and_from, or_parts}
use Rattle.std.proofs.Common.{ℕ, ◌+◌, ◌-◌, ◌≡◌, Bool, true, false, not, if◌then◌else◌, ◌&&◌, ◌||◌, ◌==◌, List, [], ◌∷◌, ◌++◌, flat_map}
use Rattle.std.proofs.Common.{length, get_or, refl, ap, sym, ◌∙◌, arith, append_assoc, subst}
use Rattle.std.specs.List.{list_any, list_all, repeat, onto_first}
use Rattle.graphql_text.specs.lexical.Characters.{is_quote, quotes, begins_with}
use Rattle.graphql_text.specs.strings.BlockStringValue.{lines_of, is_blank}
use Rattle.graphql_text.specs.strings.BlockForm.{escape_quotes, would_join_closing_quotes, block_on_one_line, broken_line, block_over_lines, block_form}
use Rattle.graphql_text.specs.layout.Lines.{ScanState, Outside, OneQuote, TwoQuotes, InBlock}
use Rattle.graphql_text.proofs.strings.EscapeQuotesSteps.{escape_from, escape_from_is}
use Rattle.graphql_text.proofs.general.BooleanTests.{outer_fail}
use Rattle.graphql_text.proofs.layout.LineScan.{has_no_lf, stays_indented, first_is_indented, step, line_feed, line_break}

-- Where a scan stands within a written line of a block string: behind no quote, one, or two that end nothing,
-- or behind `\"` or `\""` of an escape.
data Within : Type 0 where
  NoQuote AfterOne AfterTwo : Bool → Within
  Escape1 Escape2 : Within

abbrev within_state : Within → ScanState
within_state (NoQuote escaped) = InBlock escaped 0
within_state (AfterOne escaped) = InBlock escaped 1
within_state (AfterTwo escaped) = InBlock escaped 2
within_state Escape1 = InBlock true 1
within_state Escape2 = InBlock true 2

-- how many characters of the line are to be written as they are
abbrev as_they_are : Within → ℕ
as_they_are Escape1 = 2
as_they_are Escape2 = 1
as_they_are _ = 0

-- what the rest of the line can be there
abbrev may_follow : Within → List ℕ → Bool
may_follow (NoQuote escaped) text = true
may_follow (AfterOne escaped) text = not (begins_with (34 ∷ 34 ∷ []) text)
may_follow (AfterTwo escaped) text = not (begins_with (34 ∷ []) text)
may_follow Escape1 text = begins_with (34 ∷ 34 ∷ []) text
may_follow Escape2 text = begins_with (34 ∷ []) text

-- the place behind a character that is no quote
abbrev ends_plain : ℕ → Within → Type 0
ends_plain c place = is_quote c ≡ false → (c == 92) ≡ false → place ≡ NoQuote false

-- whether a line of at least one character ends with `"` or `\`
abbrev ends_open : ℕ → List ℕ → Bool
ends_open c text = is_quote (get_or (c ∷ text) (length text) 0) || (get_or (c ∷ text) (length text) 0 == 92)

no_line_feed : (c : ℕ) → not (c == 10) ≡ true → (c == 10) ≡ false
no_line_feed c h = grind arith

one_of_two : (text : List ℕ) → begins_with (34 ∷ []) text ≡ false → begins_with (34 ∷ 34 ∷ []) text ≡ false
one_of_two [] h = refl
one_of_two (c ∷ text) h = go (c == 34) refl
  where
    go : (b : Bool) → (c == 34) ≡ b → (b && begins_with (34 ∷ []) text) ≡ false
    go true e = cc
    go false e = refl

escaped_here : (c : ℕ) (text : List ℕ) → begins_with quotes (c ∷ text) ≡ true → escape_from 0 (c ∷ text) ≡ 92 ∷ c ∷ escape_from 2 text
escaped_here c text e = rw e refl

escaped_not : (c : ℕ) (text : List ℕ) → begins_with quotes (c ∷ text) ≡ false → escape_from 0 (c ∷ text) ≡ c ∷ escape_from 0 text
escaped_not c text e = rw e refl

module _ (prefix : List ℕ) (level depth : ℕ) (rest : List ℕ) where
  abbrev Goes : Within → List ℕ → Type 0
  Goes place text = stays_indented prefix level (within_state place) depth (escape_from (as_they_are place) text ++ rest) ≡ true

  -- a character that is no quote, and one that is
  abbrev Onward : Within → ℕ → List ℕ → Type 0
  Onward place c text = ((next : Within) → may_follow next text ≡ true → ends_plain c next → Goes next text) → Goes place (c ∷ text)

  plain_step : (escaped : Bool) (seen c : ℕ) (text : List ℕ) → not (c == 10) ≡ true → is_quote c ≡ false → begins_with quotes (c ∷ text) ≡ false →
      ((next : Within) → may_follow next text ≡ true → ends_plain c next → Goes next text) →
      stays_indented prefix level (InBlock escaped seen) depth (escape_from 0 (c ∷ text) ++ rest) ≡ true
  plain_step escaped seen c text h no_quote no_escape more =
      ap (λ t. stays_indented prefix level (InBlock escaped seen) depth (t ++ rest)) (escaped_not c text no_escape)
      ∙ step prefix level (InBlock escaped seen) depth c (escape_from 0 text ++ rest) (no_line_feed c h)
      ∙ rw no_quote (more (NoQuote (c == 92)) refl (λ q b. ap NoQuote b))

  quote_step : (escaped : Bool) (c : ℕ) (text : List ℕ) → not (c == 10) ≡ true → is_quote c ≡ true → begins_with (34 ∷ 34 ∷ []) text ≡ false →
      ((next : Within) → may_follow next text ≡ true → ends_plain c next → Goes next text) →
      stays_indented prefix level (InBlock escaped 0) depth (escape_from 0 (c ∷ text) ++ rest) ≡ true
  quote_step escaped c text h quote no_more more =
      ap (λ t. stays_indented prefix level (InBlock escaped 0) depth (t ++ rest)) (escaped_not c text (rw quote no_more))
      ∙ step prefix level (InBlock escaped 0) depth c (escape_from 0 text ++ rest) (no_line_feed c h)
      ∙ rw quote (more (AfterOne escaped) (ap not no_more) (λ q b. cc))

  second_step : (escaped : Bool) (c : ℕ) (text : List ℕ) → not (c == 10) ≡ true → is_quote c ≡ true → begins_with (34 ∷ []) text ≡ false →
      ((next : Within) → may_follow next text ≡ true → ends_plain c next → Goes next text) →
      stays_indented prefix level (InBlock escaped 1) depth (escape_from 0 (c ∷ text) ++ rest) ≡ true
  second_step escaped c text h quote no_more more =
      ap (λ t. stays_indented prefix level (InBlock escaped 1) depth (t ++ rest)) (escaped_not c text (rw quote (one_of_two text no_more)))
      ∙ step prefix level (InBlock escaped 1) depth c (escape_from 0 text ++ rest) (no_line_feed c h)
      ∙ rw quote (more (AfterTwo escaped) (ap not no_more) (λ q b. cc))

  escape_step : (escaped : Bool) (c : ℕ) (text : List ℕ) → not (c == 10) ≡ true → is_quote c ≡ true → begins_with (34 ∷ 34 ∷ []) text ≡ true →
      ((next : Within) → may_follow next text ≡ true → ends_plain c next → Goes next text) →
      stays_indented prefix level (InBlock escaped 0) depth (escape_from 0 (c ∷ text) ++ rest) ≡ true
  escape_step escaped c text h quote two more =
      ap (λ t. stays_indented prefix level (InBlock escaped 0) depth (t ++ rest)) (escaped_here c text (rw quote two))
      ∙ step prefix level (InBlock escaped 0) depth 92 (c ∷ (escape_from 2 text ++ rest)) refl
      ∙ step prefix level (InBlock true 0) depth c (escape_from 2 text ++ rest) (no_line_feed c h)
      ∙ rw quote (more Escape1 two (λ q b. cc))

  -- the next character of the line, wherever the scan goes with it
  within_step : (place : Within) (c : ℕ) (text : List ℕ) → not (c == 10) ≡ true → may_follow place (c ∷ text) ≡ true → Onward place c text
  within_step (NoQuote escaped) c text h k more = go (is_quote c) refl (begins_with (34 ∷ 34 ∷ []) text) refl
    where
      go : (a : Bool) → is_quote c ≡ a → (b : Bool) → begins_with (34 ∷ 34 ∷ []) text ≡ b → Goes (NoQuote escaped) (c ∷ text)
      go true e true two = escape_step escaped c text h e two more
      go true e false two = quote_step escaped c text h e two more
      go false e b two = plain_step escaped 0 c text h e (rw e refl) more
  within_step (AfterOne escaped) c text h k more = go (is_quote c) refl (begins_with (34 ∷ []) text) refl
    where
      go : (a : Bool) → is_quote c ≡ a → (b : Bool) → begins_with (34 ∷ []) text ≡ b → Goes (AfterOne escaped) (c ∷ text)
      go true e true one = cc
      go true e false one = second_step escaped c text h e one more
      go false e b one = plain_step escaped 1 c text h e (rw e refl) more
  within_step (AfterTwo escaped) c text h k more = go (is_quote c) refl
    where
      go : (a : Bool) → is_quote c ≡ a → Goes (AfterTwo escaped) (c ∷ text)
      go true e = cc
      go false e = plain_step escaped 2 c text h e (rw e refl) more
  within_step Escape1 c text h k more =
      let (quote, one) = and_parts (is_quote c) (begins_with (34 ∷ []) text) k in
      step prefix level (InBlock true 1) depth c (escape_from 1 text ++ rest) (no_line_feed c h) ∙ rw quote (more Escape2 one (λ q b. cc))
  within_step Escape2 c text h k more =
      let (quote, _) = and_parts (is_quote c) true k in
      step prefix level (InBlock true 2) depth c (escape_from 0 text ++ rest) (no_line_feed c h) ∙ rw quote (more (NoQuote false) refl (λ q b. refl))

  -- a line, wherever the scan stands behind it
  within_line : (place : Within) (text : List ℕ) → has_no_lf text ≡ true → may_follow place text ≡ true → ((next : Within) → Goes next []) → Goes place text
  within_line place [] h k behind = behind place
  within_line place (c ∷ text) h k behind =
      let (here, others) = and_parts (not (c == 10)) (has_no_lf text) h in
      within_step place c text here k (λ next follows plain. within_line next text others follows behind)

  -- a line that ends neither with `"` nor with `\`
  within_last : (place : Within) (c : ℕ) (text : List ℕ) → has_no_lf (c ∷ text) ≡ true → may_follow place (c ∷ text) ≡ true →
      ends_open c text ≡ false → Goes (NoQuote false) [] → Goes place (c ∷ text)
  within_last place c [] h k apart behind =
      let (here, _) = and_parts (not (c == 10)) true h in
      let (no_quote, no_backslash) = or_parts (is_quote c) (c == 92) apart in
      within_step place c [] here k (λ next follows plain. subst (λ p. Goes p []) (sym (plain no_quote no_backslash)) behind)
  within_last place c (d ∷ text) h k apart behind =
      let (here, others) = and_parts (not (c == 10)) (has_no_lf (d ∷ text)) h in
      within_step place c (d ∷ text) here k (λ next follows plain. within_last next d text others follows apart behind)

  -- a line as it is escaped, from where no quote stands before it
  escaped_line : (text : List ℕ) → has_no_lf text ≡ true → ((next : Within) → Goes next []) →
      stays_indented prefix level (InBlock false 0) depth (escape_quotes text ++ rest) ≡ true
  escaped_line text h behind =
      ap (λ t. stays_indented prefix level (InBlock false 0) depth (t ++ rest)) (escape_from_is text) ∙ within_line (NoQuote false) text h refl behind

  escaped_last : (text : List ℕ) → has_no_lf text ≡ true → would_join_closing_quotes text ≡ false → Goes (NoQuote false) [] →
      stays_indented prefix level (InBlock false 0) depth (escape_quotes text ++ rest) ≡ true
  escaped_last [] h apart behind = behind
  escaped_last (c ∷ text) h apart behind =
      let last : length text ≡ length (c ∷ text) - 1 = omega arith in
      ap (λ t. stays_indented prefix level (InBlock false 0) depth (t ++ rest)) (escape_from_is (c ∷ text))
      ∙ within_last (NoQuote false) c text h refl (ap (λ n. is_quote (get_or (c ∷ text) n 0) || (get_or (c ∷ text) n 0 == 92)) last ∙ apart) behind

onto_no_lf : (c : ℕ) (lines : List (List ℕ)) → not (c == 10) ≡ true → list_all has_no_lf lines ≡ true → list_all has_no_lf (onto_first c lines) ≡ true
onto_no_lf c [] h k = and_from (not (c == 10) && true) true (and_from (not (c == 10)) true h refl) refl
onto_no_lf c (line ∷ lines) h k =
    let (here, more) = and_parts (has_no_lf line) (list_all has_no_lf lines) k in
    and_from (has_no_lf (c ∷ line)) (list_all has_no_lf lines) (and_from (not (c == 10)) (has_no_lf line) h here) more

lines_are_lines : (text : List ℕ) → list_all has_no_lf (lines_of text) ≡ true
lines_are_lines [] = refl
lines_are_lines (c ∷ text) = go (c == 10) refl (lines_are_lines text)
  where
    go : (b : Bool) → (c == 10) ≡ b → list_all has_no_lf (lines_of text) ≡ true → list_all has_no_lf (lines_of (c ∷ text)) ≡ true
    go true e more = rw e more
    go false e more = rw e (onto_no_lf c (lines_of text) (ap not e) more)

without_line_feed : (value : List ℕ) → list_any (λ c. c == 10) value ≡ false → has_no_lf value ≡ true
without_line_feed [] h = refl
without_line_feed (c ∷ value) h =
    let (here, more) = or_parts (c == 10) (list_any (λ c. c == 10) value) h in
    and_from (not (c == 10)) (has_no_lf value) (ap not here) (without_line_feed value more)

module _ (prefix : List ℕ) (level depth times : ℕ) (rest : List ℕ) (blank : is_blank prefix ≡ true) (placed : level + depth ≡ times)
    (outside : stays_indented prefix level Outside depth rest ≡ true) where
  abbrev indent : List ℕ
  indent = repeat times prefix

  opening : (text : List ℕ) → stays_indented prefix level Outside depth (quotes ++ text) ≡ stays_indented prefix level (InBlock false 0) depth text
  opening text =
      step prefix level Outside depth 34 (34 ∷ 34 ∷ text) refl ∙ step prefix level OneQuote depth 34 (34 ∷ text) refl
      ∙ step prefix level TwoQuotes depth 34 text refl

  closing : stays_indented prefix level (InBlock false 0) depth (quotes ++ rest) ≡ true
  closing =
      step prefix level (InBlock false 0) depth 34 (34 ∷ 34 ∷ rest) refl ∙ step prefix level (InBlock false 1) depth 34 (34 ∷ rest) refl
      ∙ step prefix level (InBlock false 2) depth 34 rest refl ∙ outside

  -- a line within the string, and what follows it
  inner_break : (escaped : Bool) (seen : ℕ) (text : List ℕ) → stays_indented prefix level (InBlock false 0) depth text ≡ true →
      stays_indented prefix level (InBlock escaped seen) depth (10 ∷ (indent ++ text)) ≡ true
  inner_break escaped seen text more = line_break prefix level (InBlock escaped seen) depth times text blank refl (λ line lines is. omega (arith, placed)) more

  -- the lines that are left, and the end
  abbrev Left : List (List ℕ) → List ℕ
  Left lines = flat_map (broken_line indent) lines ++ (10 ∷ (indent ++ (quotes ++ rest)))

  left_begins : (lines : List (List ℕ)) → first_is_indented prefix level (InBlock false 0) depth (lines_of (Left lines)) ≡ true
  left_begins [] = refl
  left_begins ([] ∷ lines) = refl
  left_begins ((c ∷ line) ∷ lines) = refl

  left_step : (escaped : Bool) (seen : ℕ) (lines : List (List ℕ)) → list_all has_no_lf lines ≡ true →
      stays_indented prefix level (InBlock escaped seen) depth (Left lines) ≡ true
  left_step escaped seen [] h = inner_break escaped seen (quotes ++ rest) closing
  left_step escaped seen ([] ∷ lines) h = line_feed prefix level (InBlock escaped seen) depth (Left lines) (left_begins lines) (left_step false 0 lines h)
  left_step escaped seen ((c ∷ line) ∷ lines) h =
      let (here, more) = and_parts (has_no_lf (c ∷ line)) (list_all has_no_lf lines) h in
      let parts : Left ((c ∷ line) ∷ lines) ≡ 10 ∷ (indent ++ (escape_quotes (c ∷ line) ++ Left lines)) = simp append_assoc in
      ap (stays_indented prefix level (InBlock escaped seen) depth) parts
      ∙ inner_break escaped seen (escape_quotes (c ∷ line) ++ Left lines)
      (escaped_line prefix level depth (Left lines) (c ∷ line) here (left_after lines (λ escaped seen. left_step escaped seen lines more)))
    where
      left_after : (lines : List (List ℕ)) →
          ((escaped : Bool) (seen : ℕ) → stays_indented prefix level (InBlock escaped seen) depth (Left lines) ≡ true) → (next : Within) →
          Goes prefix level depth (Left lines) next []
      left_after lines h (NoQuote escaped) = h escaped 0
      left_after lines h (AfterOne escaped) = h escaped 1
      left_after lines h (AfterTwo escaped) = h escaped 2
      left_after lines h Escape1 = h true 1
      left_after lines h Escape2 = h true 2

  over_lines : (value : List ℕ) → stays_indented prefix level Outside depth (block_over_lines indent value ++ rest) ≡ true
  over_lines value =
      let parts : block_over_lines indent value ++ rest ≡ quotes ++ Left (lines_of value) = simp append_assoc in
      ap (stays_indented prefix level Outside depth) parts ∙ opening (Left (lines_of value)) ∙ left_step false 0 (lines_of value) (lines_are_lines value)

  on_one_line : (value : List ℕ) → list_any (λ c. c == 10) value ≡ false → would_join_closing_quotes value ≡ false →
      stays_indented prefix level Outside depth (block_on_one_line value ++ rest) ≡ true
  on_one_line value h k =
      let parts : block_on_one_line value ++ rest ≡ quotes ++ (escape_quotes value ++ (quotes ++ rest)) = simp append_assoc in
      ap (stays_indented prefix level Outside depth) parts ∙ opening (escape_quotes value ++ (quotes ++ rest))
      ∙ escaped_last prefix level depth (quotes ++ rest) value (without_line_feed value h) k closing

  -- a block string at a level at which so many brackets are open
  pub block_step : (long : Bool) (value : List ℕ) → stays_indented prefix level Outside depth (block_form indent long value ++ rest) ≡ true
  block_step long value = go (list_any (λ c. c == 10) value || long || would_join_closing_quotes value) refl
    where
      go : (b : Bool) → (list_any (λ c. c == 10) value || long || would_join_closing_quotes value) ≡ b →
          stays_indented prefix level Outside depth ((if b then block_over_lines indent value else block_on_one_line value) ++ rest) ≡ true
      go true e = over_lines value
      go false e = let (no_lf, no_join) = outer_fail (list_any (λ c. c == 10) value) long (would_join_closing_quotes value) e in on_one_line value no_lf no_join
