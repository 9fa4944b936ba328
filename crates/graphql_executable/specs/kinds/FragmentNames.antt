-- Names of fragments, and the types that they stand on: FragmentName and TypeCondition, section 2.8.
use Rattle.std.specs.Prelude.{ℕ, List, [], ◌∷◌, codes, Bool, not}
use Rattle.graphql_text.specs.lexical.Literals.{NameText}
use Rattle.graphql_text.specs.lexical.Tokens.{Name}
use Rattle.graphql_text.specs.grammar.Forms.{Form, ◌⨟◌, keyword, name_except, is_one_of}
use Rattle.graphql_text.specs.layout.Layout.{Item, Word, Space}

-- FragmentName, section 2.8: Name but not `on`
abbrev pub not_fragment_names : List (List ℕ)
not_fragment_names = codes "on" ∷ []

abbrev pub is_fragment_name : List ℕ → Bool
is_fragment_name text = not (is_one_of not_fragment_names text)

-- The grammar of TypeCondition, section 2.8.
abbrev pub type_condition_form : NameText → Form
type_condition_form name = keyword (codes "on") ⨟ name_except [] name

-- Its layout, after a space.
abbrev pub type_condition_shape : NameText → List Item
type_condition_shape name = Space ∷ Word (Name (codes "on")) ∷ Space ∷ Word (Name name.text) ∷ []
