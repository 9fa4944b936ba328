-- The block form that a printer gives a string, one of its spellings (String Value, section 2.9.4), and which strings
-- it gives it.
use Rattle.std.specs.Prelude.{ℕ, ◌-◌, Bool, not, ◌&&◌, ◌||◌, ◌==◌, if◌then◌else◌, List, [], ◌∷◌, ◌++◌, length, get_or, flat_map, nat_lt, encode_utf8_all}
use Rattle.std.specs.List.{list_any, list_all, repeat}
use Rattle.graphql_base.specs.Names.{begins_in}
use Rattle.graphql_text.specs.lexical.Characters.{is_space_or_tab, is_quote, quotes, escaped_quotes}
use Rattle.graphql_text.specs.strings.BlockStringValue.{lines_of, is_blank}

-- each `"""`, leftmost first, as `\"""`
abbrev pub escape_quotes : List ℕ → List ℕ
escape_quotes (a ∷ b ∷ c ∷ text) =
    let past = escape_quotes text in
    let next = escape_quotes (b ∷ c ∷ text) in
    if is_quote a && is_quote b && is_quote c then escaped_quotes ++ past else a ∷ next
escape_quotes text = text

-- whether a line begins with something other than white space
abbrev pub begins_unindented : List ℕ → Bool
begins_unindented = begins_in (λ c. not (is_space_or_tab c))

-- Whether the printer may write a value as a block string: it holds no CR, neither its first nor its last line is blank,
-- and one of its lines begins with something other than white space. (`  a` can be spelled as a block string too, but is
-- written in quotes.)
abbrev pub can_be_block : List ℕ → Bool
can_be_block value =
    let lines = lines_of value in
    list_all (λ c. not (c == 0xD)) value && not (is_blank (get_or lines 0 []))
    && not (is_blank (get_or lines (length lines - 1) [])) && list_any begins_unindented lines

-- whether closing quotes cannot stand right after the value: it ends with `"` or `\`
abbrev pub would_join_closing_quotes : List ℕ → Bool
would_join_closing_quotes value =
    let last = get_or value (length value - 1) 0 in
    is_quote last || (last == 0x5C)

abbrev pub block_on_one_line : List ℕ → List ℕ
block_on_one_line value = quotes ++ (escape_quotes value ++ quotes)

-- a line feed, the indentation and the line; a bare line feed for an empty line
abbrev pub broken_line : List ℕ → List ℕ → List ℕ
broken_line indent [] = 0xA ∷ []
broken_line indent (c ∷ line) = 0xA ∷ indent ++ escape_quotes (c ∷ line)

abbrev pub block_over_lines : List ℕ → List ℕ → List ℕ
block_over_lines indent value =
    quotes ++ (flat_map (broken_line indent) (lines_of value) ++ (0xA ∷ indent ++ quotes))

-- the block form, where `long` says whether the value is longer than 70 bytes
abbrev pub block_form : List ℕ → Bool → List ℕ → List ℕ
block_form indent long value =
    if list_any (λ c. c == 0xA) value || long || would_join_closing_quotes value
    then block_over_lines indent value
    else block_on_one_line value

-- the block form of a value under a prefix at a level
abbrev pub block_text : List ℕ → ℕ → List ℕ → List ℕ
block_text prefix level value = block_form (repeat level prefix) (nat_lt 70 (length (encode_utf8_all value))) value
