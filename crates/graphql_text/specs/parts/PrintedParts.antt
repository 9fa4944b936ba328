-- What holds of the tokens of a part as it is printed.
use Rattle.std.specs.Prelude.{◌≡◌, List, ◌++◌, Bool, false, IsTrue}
use Rattle.graphql_text.specs.grammar.Forms.{Form, TokenClass, begins}
use Rattle.graphql_text.specs.kinds.Kinds.{Kind}
use Rattle.graphql_text.specs.layout.Layout.{Item}
use Rattle.graphql_text.specs.layout.Spelling.{tokens_of_items}
use Rattle.graphql_text.specs.lexical.Tokens.{Token}

-- The words and strings of the layout of a tree that obeys the side conditions derive it, before whatever follows.
abbrev pub PrintedTokensDerive : {Tree : Type 0} → (Tree → Form) → (Bool → Tree → List Item) → (Tree → Bool) → Type 0
PrintedTokensDerive {Tree} form shape obeys =
    (broken : Bool) (tree : Tree) → IsTrue (obeys tree) → (rest : List Token) → form tree (tokens_of_items (shape broken tree) ++ rest) rest

-- They derive it before what begins with none of some tokens.
abbrev pub PrintedTokensDeriveBefore : {Tree : Type 0} → (Tree → Form) → (Bool → Tree → List Item) → (Tree → Bool) → List TokenClass → Type 0
PrintedTokensDeriveBefore {Tree} form shape obeys excluded =
    (broken : Bool) (tree : Tree) → IsTrue (obeys tree) → (rest : List Token) → begins excluded rest ≡ false →
    form tree (tokens_of_items (shape broken tree) ++ rest) rest

-- The same of the trees of a kind, at the front and behind something else.
abbrev pub KindTokensDeriveBefore : Kind → List TokenClass → Type 0
KindTokensDeriveBefore kind excluded = (front : Bool) → PrintedTokensDeriveBefore kind.form (λ broken. kind.shape broken front) kind.obeys excluded
