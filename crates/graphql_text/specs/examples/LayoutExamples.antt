-- Items that the laws speak of as examples.
use Rattle.std.specs.Prelude.{List, [], ◌∷◌, codes}
use Rattle.graphql_text.specs.layout.Layout.{AsDescription, Blank, Finish, Item, Soft, StringItem, Word}
use Rattle.graphql_text.specs.lexical.Tokens.{IntValue, Name}

-- the names `a` and `b`, and the integers 1 and 2, each as the members of a group
abbrev pub two_names : List (List Item)
two_names = (Word (Name (codes "a")) ∷ []) ∷ (Word (Name (codes "b")) ∷ []) ∷ []

abbrev pub two_integers : List (List Item)
two_integers = (Word (IntValue (codes "1")) ∷ []) ∷ (Word (IntValue (codes "2")) ∷ []) ∷ []

-- the name `a` with the description `d`
abbrev pub described_name : List Item
described_name = StringItem (codes "d") AsDescription ∷ Soft ∷ Word (Name (codes "a")) ∷ []

-- the names `a` and `b` as the definitions of a document
abbrev pub two_definitions : List Item
two_definitions = Word (Name (codes "a")) ∷ Blank ∷ Word (Name (codes "b")) ∷ Finish ∷ []
