-- Comma groups and curly groups from an item on, for writers that go through them item by item.
use Rattle.std.specs.Prelude.{List, [], ◌∷◌, ◌++◌, Bool, true, false}
use Rattle.graphql_text.specs.lexical.Tokens.{Punctuator, rbrace, Punctuation}
use Rattle.graphql_text.specs.layout.Layout.{Item, Word, Comma, Soft, Tight, Lower, last_comma}

-- what stands before an item of a comma group: the first one, or another
abbrev pub comma_lead : Bool → List Item
comma_lead true = Tight ∷ []
comma_lead false = Comma ∷ Soft ∷ []

-- what is left of an open comma group, where `is_first` says that none of its items was written
abbrev pub comma_rest : Punctuator → Bool → Bool → List (List Item) → List Item
comma_rest closing broken is_first [] = last_comma broken ++ (Lower ∷ Tight ∷ Word (Punctuation closing) ∷ [])
comma_rest closing broken is_first (x ∷ xs) = comma_lead is_first ++ (x ++ comma_rest closing broken false xs)

-- what is left of an open curly group
abbrev pub curly_rest : List (List Item) → List Item
curly_rest [] = Lower ∷ Soft ∷ Word (Punctuation rbrace) ∷ []
curly_rest (x ∷ xs) = Soft ∷ (x ++ curly_rest xs)
