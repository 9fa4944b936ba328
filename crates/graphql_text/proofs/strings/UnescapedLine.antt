-- A text of which nothing is escaped is one line, which stands in a block string as it is.
use Rattle.std.proofs.Common.{◌≡◌, ◌==◌, ℕ, zero, suc, ◌<◌, ◌-◌, Bool, true, false, not, if◌then◌else◌, ◌&&◌, ◌||◌, length, nat_lt, get_or}
use Rattle.std.proofs.Common.{List, [], ◌∷◌, ◌++◌, append-nil, refl, ap, sym, ◌∙◌, arith}
use Rattle.std.specs.List.{list_any, list_all}
use Rattle.graphql_text.specs.lexical.Characters.{is_space_or_tab, is_quote, quotes}
use Rattle.graphql_text.specs.strings.BlockStringValue.{lines_of, is_blank}
use Rattle.graphql_text.specs.strings.BlockForm.{begins_unindented, block_form, block_on_one_line, block_over_lines, broken_line}
use Rattle.graphql_text.specs.strings.BlockForm.{can_be_block, escape_quotes, would_join_closing_quotes}
use Rattle.graphql_text.specs.strings.QuotedForm.{quoted_character}
use Rattle.graphql_text.proofs.strings.BlockFormValue.{lines_one}
use Rattle.graphql_text.proofs.strings.EscapeQuotesSteps.{escape_not_here}
use Rattle.graphql_text.proofs.strings.ThreeQuotesScan.{broken_some}
use Rattle.graphql_text.proofs.strings.LinesOneByOne.{not_any}
use Rattle.graphql_text.proofs.strings.StringTextForm.{none_stands}

-- whether something in a text is escaped
abbrev pub some_escaped : List ℕ → Bool
some_escaped = list_any (λ c. nat_lt 1 (length (quoted_character c)))

-- where no character passes a test, and 0 doesn't, none at any place does
none_at : (test : ℕ → Bool) (text : List ℕ) (i : ℕ) → test 0 ≡ false → list_any test text ≡ false → test (get_or text i 0) ≡ false
none_at test [] i at_zero none = at_zero
none_at test (c ∷ text) zero at_zero none = grind arith
none_at test (c ∷ text) (suc i) at_zero none = none_at test text i at_zero (grind arith)

unquoted : (text : List ℕ) → list_any is_quote text ≡ false → escape_quotes text ≡ text
unquoted [] none = refl
unquoted (c ∷ text) none =
    let e : is_quote c ≡ false = grind arith in
    escape_not_here c text (rw e refl) ∙ ap (λ (x : List ℕ). c ∷ x) (unquoted text (grind arith))

-- there are no quotes to escape
pub plain_as_is : (text : List ℕ) → some_escaped text ≡ false → escape_quotes text ≡ text
plain_as_is text plain = unquoted text (none_stands 0x22 refl text plain)

-- there is one line
pub plain_line : (text : List ℕ) → some_escaped text ≡ false → lines_of text ≡ text ∷ []
plain_line text plain = lines_one text (none_stands 0xA refl text plain)

-- closing quotes can stand right after it
plain_joins_not : (text : List ℕ) → some_escaped text ≡ false → would_join_closing_quotes text ≡ false
plain_joins_not text plain =
    rw (
      none_at is_quote text (length text - 1) refl (none_stands 0x22 refl text plain),
      none_at (λ c. c == 0x5C) text (length text - 1) refl (none_stands 0x5C refl text plain),
    ) refl

-- it can be a block string where it begins with something other than white space
pub plain_can_be_block : (text : List ℕ) → some_escaped text ≡ false → can_be_block text ≡ begins_unindented text
plain_can_be_block text plain =
    let no_return : list_all (λ c. not (c == 0xD)) text ≡ true = sym (not_any (λ c. c == 0xD) text) ∙ ap not (none_stands 0xD refl text plain) in
    rw (plain_line text plain, no_return) (one_line text)
  where
    one_line : (line : List ℕ) → (true && not (is_blank line) && not (is_blank line) && (begins_unindented line || false)) ≡ begins_unindented line
    one_line [] = refl
    one_line (c ∷ line) = go (is_space_or_tab c) (is_blank line)
      where
        go : (b rest : Bool) → (true && not (b && rest) && not (b && rest) && (not b || false)) ≡ not b
        go true true = refl
        go true false = refl
        go false rest = refl

-- its block form, over lines
pub plain_over_lines : (indent text : List ℕ) → 0 < length text → some_escaped text ≡ false →
    block_over_lines indent text ≡ quotes ++ (((0xA ∷ indent) ++ text) ++ (0xA ∷ indent ++ quotes))
plain_over_lines indent text some plain =
    rw (plain_line text plain, append-nil (broken_line indent text), broken_some indent text some, plain_as_is text plain) refl

-- its block form is over lines where it is long
pub plain_form : (indent text : List ℕ) (long : Bool) → some_escaped text ≡ false →
    block_form indent long text ≡ (if long then block_over_lines indent text else block_on_one_line text)
plain_form indent text long plain =
    rw (none_stands 0xA refl text plain, plain_joins_not text plain) (go long)
  where
    go : (b : Bool) →
        (if (false || b || false) then block_over_lines indent text else block_on_one_line text)
        ≡ (if b then block_over_lines indent text else block_on_one_line text)
    go true = refl
    go false = refl
