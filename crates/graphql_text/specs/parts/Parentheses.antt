-- Parts in parentheses, as arguments are: a comma group, or nothing where there is no part.
use Rattle.std.specs.Prelude.{ℕ, List, [], ◌∷◌, map, Bool, false, if◌then◌else◌}
use Rattle.std.specs.List.{list_any}
use Rattle.graphql_text.specs.lexical.Tokens.{lparen, rparen}
use Rattle.graphql_text.specs.grammar.Forms.{Form, optional_group}
use Rattle.graphql_text.specs.layout.Layout.{Item, comma_group, flat}
use Rattle.graphql_text.specs.layout.Nesting.{group_nesting}

module _ {A : Type 0} where
  abbrev pub parentheses_form : (A → Form) → List A → Form
  parentheses_form form = optional_group lparen form rparen

  -- They stand on one line in every layout.
  abbrev pub flat_parentheses_shape : (A → List Item) → List A → List Item
  flat_parentheses_shape shape [] = []
  flat_parentheses_shape shape (part ∷ more) = flat (comma_group lparen rparen false (map shape (part ∷ more)))

  -- They stand on one line in every layout, unless one of them wants lines of its own: then they have the mode around them.
  abbrev pub parentheses_shape : (A → Bool) → (Bool → A → List Item) → Bool → List A → List Item
  parentheses_shape wants_lines shape broken [] = []
  parentheses_shape wants_lines shape broken (part ∷ more) =
      if list_any wants_lines (part ∷ more)
      then comma_group lparen rparen broken (map (shape broken) (part ∷ more))
      else flat (comma_group lparen rparen false (map (shape false) (part ∷ more)))

  -- They are a group.
  abbrev pub parentheses_nesting : (A → ℕ) → List A → ℕ
  parentheses_nesting nesting parts = group_nesting (map nesting parts)
