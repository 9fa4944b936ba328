-- The layout of names that stand joined by a punctuator, as the locations of a directive definition do.
use Rattle.std.specs.Prelude.{ℕ, List, [], ◌∷◌, map}
use Rattle.graphql_text.specs.lexical.Tokens.{Punctuator, Token, Punctuation, Name}
use Rattle.graphql_text.specs.layout.Layout.{Item, Word, Space, each_after}

-- A word and the names of all parts, with the separator between these and a space before each word; nothing where there is no part.
abbrev pub joined_names_shape : {A : Type 0} → Token → Punctuator → (A → List ℕ) → List A → List Item
joined_names_shape word separator name parts =
    each_after (Space ∷ Word word ∷ Space ∷ []) (Space ∷ Word (Punctuation separator) ∷ Space ∷ []) (map (λ part. Word (Name (name part)) ∷ []) parts)
