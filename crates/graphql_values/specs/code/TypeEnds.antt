-- What is still to be written of a type: the ends of its open lists, the last one first.
use Rattle.std.specs.Prelude.{List, [], ◌∷◌, ◌++◌}
use Rattle.graphql_text.specs.lexical.Tokens.{bang, rbracket, Punctuation}
use Rattle.graphql_text.specs.layout.Layout.{Item, Word}
use Rattle.graphql_values.specs.declared.types.print.TypeEntry.{TypeEntry}
use Rattle.graphql_values.specs.declared.types.print.TypeEntry.TheVariants.{EndOfList, EndOfNonNullList}

-- the end of one list
abbrev pub end_items : TypeEntry → List Item
end_items EndOfList = Word (Punctuation rbracket) ∷ []
end_items EndOfNonNullList = Word (Punctuation rbracket) ∷ Word (Punctuation bang) ∷ []

abbrev pub ends_items : List TypeEntry → List Item
ends_items [] = []
ends_items (end ∷ ends) = ends_items ends ++ end_items end
