-- What it is for a form to be read in one way, where what follows it is none of some tokens.
use Rattle.std.specs.Prelude.{◌≡◌, List, false}
use Rattle.graphql_text.specs.lexical.Tokens.{Token}
use Rattle.graphql_text.specs.grammar.Forms.{Form, TokenClass, begins}

-- Two trees that are derived at one place of a token list, each followed by none of these tokens, are the same and end at one place.
abbrev pub IsReadOneWay : {Tree : Type 0} → (Tree → Form) → List TokenClass → Type 0
IsReadOneWay {Tree} form excluded =
    (tree other : Tree) (tokens rest rest' : List Token) →
    form tree tokens rest → form other tokens rest' → begins excluded rest ≡ false → begins excluded rest' ≡ false →
    (tree ≡ other) × (rest ≡ rest')
