-- Which tokens the text of items has, and where each of them may stand before what follows it.
use Rattle.std.specs.Prelude.{List, [], ◌∷◌, Bool, true, false, ◌≡◌}
use Rattle.graphql_text.specs.lexical.Characters.{IsSourceText}
use Rattle.graphql_text.specs.lexical.Literals.{is_int, is_float}
use Rattle.graphql_base.specs.Names.{is_name}
use Rattle.graphql_text.specs.lexical.Tokens.{Punctuator, spread, Token, Punctuation, Name, IntValue, FloatValue, StringValue}
use Rattle.graphql_text.specs.layout.Layout.{Item, Word, StringItem, Space, Comma, Soft, Blank}

-- the words and strings of items, in order
abbrev pub tokens_of_items : List Item → List Token
tokens_of_items [] = []
tokens_of_items (Word token ∷ items) = token ∷ tokens_of_items items
tokens_of_items (StringItem value role ∷ items) = StringValue value ∷ tokens_of_items items
tokens_of_items (_ ∷ items) = tokens_of_items items

-- Whether a punctuator may stand right behind a name, a number or a string: the `.` of `...` would go on with a number.
abbrev pub punctuator_leaves_room : Punctuator → Bool
punctuator_leaves_room spread = false
punctuator_leaves_room _ = true

-- Whether items, in every layout, begin with nothing that would go on with a name, a number or a string before them.
abbrev pub leaves_room : List Item → Bool
leaves_room [] = true
leaves_room (Word (Punctuation mark) ∷ items) = punctuator_leaves_room mark
leaves_room (Word token ∷ items) = false
leaves_room (StringItem value role ∷ items) = false
leaves_room (Space ∷ items) = true
leaves_room (Comma ∷ items) = true
leaves_room (Soft ∷ items) = true
leaves_room (Blank ∷ items) = true
leaves_room (_ ∷ items) = leaves_room items

-- The token can be spelled, and its spelling may stand before the items.
abbrev pub StandsBefore : Token → List Item → Type 0
StandsBefore (Punctuation mark) items = Unit {0}
StandsBefore (Name text) items = (is_name text ≡ true) × (leaves_room items ≡ true)
StandsBefore (IntValue text) items = (is_int text ≡ true) × (leaves_room items ≡ true)
StandsBefore (FloatValue text) items = (is_float text ≡ true) × (leaves_room items ≡ true)
StandsBefore (StringValue value) items = IsSourceText value × (leaves_room items ≡ true)

-- Each word and string may stand before what follows it.
abbrev pub AreApart : List Item → Type 0
AreApart [] = Unit {0}
AreApart (Word token ∷ items) = StandsBefore token items × AreApart items
AreApart (StringItem value role ∷ items) = StandsBefore (StringValue value) items × AreApart items
AreApart (_ ∷ items) = AreApart items
