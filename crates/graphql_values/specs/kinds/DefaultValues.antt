-- Default values: DefaultValue, section 2.10.
use Rattle.std.specs.Prelude.{ℕ, List, ◌∷◌, Bool, Option}
use Rattle.graphql_text.specs.lexical.Tokens.{equals, Punctuation}
use Rattle.graphql_text.specs.grammar.Forms.{Form, token, ◌⨟◌, optional}
use Rattle.graphql_text.specs.kinds.Flaws.{Flaw}
use Rattle.graphql_text.specs.layout.Layout.{Item, Word, Space}
use Rattle.graphql_text.specs.parts.Optional.{optional_shape, optional_nesting, optional_obeys, optional_flaws}
use Rattle.graphql_values.specs.kinds.Values.{Const, ValueTree, value_form, value_shape, value_nesting, value_obeys, value_flaws}

-- The grammar of DefaultValue, section 2.10, or nothing where there is none.
abbrev pub default_value_form : Option ValueTree → Form
default_value_form = optional (λ value. token (Punctuation equals) ⨟ value_form Const value)

-- The layout of a default value, which has the mode around it.
abbrev pub default_value_shape : Bool → Option ValueTree → List Item
default_value_shape broken = optional_shape (λ value. Space ∷ Word (Punctuation equals) ∷ Space ∷ value_shape broken value)

-- It nests as its value does.
abbrev pub default_value_nesting : Option ValueTree → ℕ
default_value_nesting = optional_nesting value_nesting

-- The side conditions are those of a value in a const context.
abbrev pub default_value_obeys : Option ValueTree → Bool
default_value_obeys = optional_obeys (value_obeys Const)

abbrev pub default_value_flaws : Option ValueTree → List Flaw
default_value_flaws = optional_flaws (value_flaws Const)
