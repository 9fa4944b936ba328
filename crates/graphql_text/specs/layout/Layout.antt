-- The layout of a tree: words, strings and marks, and the text that they give under a prefix or on one line.
use Rattle.std.specs.Prelude.{ℕ, ◌+◌, ◌-◌, List, [], ◌∷◌, ◌++◌, codes, Bool, true, false, if◌then◌else◌, ◌&&◌, ◌==◌, Option, Some, None, ◌≡◌}
use Rattle.std.specs.List.{list_any, repeat}
use Rattle.graphql_text.specs.strings.BlockStringValue.{is_blank}
use Rattle.graphql_text.specs.strings.BlockForm.{can_be_block, block_text}
use Rattle.graphql_text.specs.strings.QuotedForm.{quoted_form}
use Rattle.graphql_text.specs.lexical.Tokens.{Punctuator, lbrace, rbrace, punctuator_text, Token, Punctuation, Name, IntValue, FloatValue, StringValue}

-- What a string is printed as: a value, a description, or a string in a part that stands on one line in every layout.
pub data StringRole : Type 0 where
  AsValue AsDescription OnOneLine : StringRole

-- An item of a layout.
pub data Item : Type 0 where
  -- a token, as it is
  Word : Token → Item
  -- a string, quoted or as a block string
  StringItem : List ℕ → StringRole → Item
  -- a space and a comma, in every layout
  Space Comma : Item
  -- a break under a prefix; on one line a space, or nothing
  Soft Tight : Item
  -- between the definitions of a document: an empty line and a break under a prefix, on one line a space
  Blank : Item
  -- the end of a document: a line feed under a prefix, on one line nothing
  Finish : Item
  -- from here on lines stand one level deeper, or one level less deep
  Raise Lower : Item

abbrev pub word_text : Token → List ℕ
word_text (Punctuation mark) = punctuator_text mark
word_text (Name text) = text
word_text (IntValue text) = text
word_text (FloatValue text) = text
word_text (StringValue value) = quoted_form value

-- whether a string is to be a block string where breaks stand: a description, and a value that holds a line feed
abbrev pub wants_block : StringRole → List ℕ → Bool
wants_block AsValue value = list_any (λ c. c == 0xA) value
wants_block AsDescription value = true
wants_block OnOneLine value = false

-- The text of a string at a level. The mode is a prefix, or none where all stands on one line.
-- It is a block string only under a prefix, if its role asks for one, and it can be one.
abbrev pub string_text : Option (List ℕ) → ℕ → List ℕ → StringRole → List ℕ
string_text None level value role = quoted_form value
string_text (Some prefix) level value role =
    if wants_block role value && can_be_block value then block_text prefix level value else quoted_form value

-- a line feed, and the prefix as often as the level
abbrev pub break_text : List ℕ → ℕ → List ℕ
break_text prefix level = codes "\n" ++ repeat level prefix

-- the text of an item at a level
abbrev pub item_text : Option (List ℕ) → ℕ → Item → List ℕ
item_text mode level (Word token) = word_text token
item_text mode level (StringItem value role) = string_text mode level value role
item_text mode level Space = codes " "
item_text mode level Comma = codes ","
item_text (Some prefix) level Soft = break_text prefix level
item_text None level Soft = codes " "
item_text (Some prefix) level Tight = break_text prefix level
item_text None level Tight = []
item_text (Some prefix) level Blank = codes "\n" ++ break_text prefix level
item_text None level Blank = codes " "
item_text (Some prefix) level Finish = codes "\n"
item_text None level Finish = []
item_text mode level Raise = []
item_text mode level Lower = []

abbrev pub raises_at : Item → ℕ
raises_at Raise = 1
raises_at _ = 0

abbrev pub lowers_at : Item → ℕ
lowers_at Lower = 1
lowers_at _ = 0

-- how many marks of each kind items have
unfoldable pub raises : List Item → ℕ
raises [] = 0
raises (item ∷ items) = raises_at item + raises items

unfoldable pub lowers : List Item → ℕ
lowers [] = 0
lowers (item ∷ items) = lowers_at item + lowers items

-- The text of items. The level at a place is the starting level, plus the Raise marks before it, minus the Lower marks before it.
unfoldable pub text_of_items : Option (List ℕ) → ℕ → ℕ → ℕ → List Item → List ℕ
text_of_items mode start raised lowered [] = []
text_of_items mode start raised lowered (item ∷ items) =
    item_text mode (start + raised - lowered) item ++ text_of_items mode start (raised + raises_at item) (lowered + lowers_at item) items

-- under a prefix the text begins with the prefix as often as the level
abbrev pub first_indent : Option (List ℕ) → ℕ → List ℕ
first_indent None level = []
first_indent (Some prefix) level = repeat level prefix

-- the whole layout of items
abbrev pub layout : Option (List ℕ) → ℕ → List Item → List ℕ
layout mode level items = first_indent mode level ++ text_of_items mode level 0 0 items

abbrev pub is_broken : Option (List ℕ) → Bool
is_broken None = false
is_broken (Some prefix) = true

-- whether no prefix is written before the tree, where an empty one counts too: there is none, or the level is 0
abbrev pub is_front : Option (List ℕ) → ℕ → Bool
is_front None level = true
is_front (Some prefix) level = level == 0

-- no prefix, or one of spaces and tabs only
abbrev pub IsBlankMode : Option (List ℕ) → Type 0
IsBlankMode None = Unit {0}
IsBlankMode (Some prefix) = is_blank prefix ≡ true

-- Items that stand on one line whatever the layout: a soft mark is a space, a tight one nothing; raise and lower marks stay.
abbrev pub flat_item : Item → List Item
flat_item Soft = Space ∷ []
flat_item Tight = []
flat_item Blank = Space ∷ []
flat_item Finish = []
flat_item (StringItem value role) = StringItem value OnOneLine ∷ []
flat_item item = item ∷ []

unfoldable pub flat : List Item → List Item
flat [] = []
flat (item ∷ items) = flat_item item ++ flat items

-- Groups.

-- items at the next level
abbrev pub enclosed : List Item → List Item
enclosed items = Raise ∷ (items ++ (Lower ∷ []))

-- items, each after what leads to it: one thing before the first, another before each other
unfoldable pub each_after : List Item → List Item → List (List Item) → List Item
each_after first other [] = []
each_after first other (x ∷ xs) = (first ++ x) ++ each_after other other xs

abbrev pub last_comma : Bool → List Item
last_comma true = Comma ∷ []
last_comma false = []

-- A comma group: items with a comma between them, and when broken after the last one too.
abbrev pub comma_group : Punctuator → Punctuator → Bool → List (List Item) → List Item
comma_group opening closing broken [] = Word (Punctuation opening) ∷ Word (Punctuation closing) ∷ []
comma_group opening closing broken (x ∷ xs) =
    Word (Punctuation opening)
    ∷ (enclosed (each_after (Tight ∷ []) (Comma ∷ Soft ∷ []) (x ∷ xs) ++ last_comma broken) ++ (Tight ∷ Word (Punctuation closing) ∷ []))

-- A curly group: items between braces, each after a soft mark, and a soft mark before the last brace.
abbrev pub curly_group : List (List Item) → List Item
curly_group [] = Word (Punctuation lbrace) ∷ Word (Punctuation rbrace) ∷ []
curly_group (x ∷ xs) = Word (Punctuation lbrace) ∷ (enclosed (each_after (Soft ∷ []) (Soft ∷ []) (x ∷ xs)) ++ (Soft ∷ Word (Punctuation rbrace) ∷ []))
