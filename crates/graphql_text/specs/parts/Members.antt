-- Members: parts of one kind between braces, as the fields of a type are. They may be left out, or one at least is required.
use Rattle.std.specs.Prelude.{ℕ, List, [], ◌∷◌, map, length, Bool, not, ◌&&◌, ◌==◌, false}
use Rattle.std.specs.List.{list_all, flat_map}
use Rattle.graphql_text.specs.lexical.Tokens.{lbrace, rbrace, Punctuation}
use Rattle.graphql_text.specs.grammar.Forms.{Form, ◌⨟◌, token, nonempty_list_of, optional_braces}
use Rattle.graphql_text.specs.kinds.Flaws.{Flaw}
use Rattle.graphql_text.specs.kinds.Kinds.{Kind}
use Rattle.graphql_text.specs.layout.Layout.{Item, Space, curly_group}
use Rattle.graphql_text.specs.layout.Nesting.{group_nesting}

-- whether there is a part
abbrev pub has_some : {A : Type 0} → List A → Bool
has_some parts = not (length parts == 0)

abbrev pub required_members_form : (kind : Kind) → List kind.Tree → Form
required_members_form kind members = token (Punctuation lbrace) ⨟ nonempty_list_of kind.form members ⨟ token (Punctuation rbrace)

abbrev pub members_form : (kind : Kind) → List kind.Tree → Form
members_form kind = optional_braces kind.form

-- the group of the members, after a space
abbrev pub required_members_shape : (kind : Kind) → Bool → List kind.Tree → List Item
required_members_shape kind broken members = Space ∷ curly_group (map (kind.shape broken false) members)

abbrev pub members_shape : (kind : Kind) → Bool → List kind.Tree → List Item
members_shape kind broken [] = []
members_shape kind broken (member ∷ more) = required_members_shape kind broken (member ∷ more)

abbrev pub members_nesting : (kind : Kind) → List kind.Tree → ℕ
members_nesting kind members = group_nesting (map kind.nesting members)

abbrev pub members_obey : (kind : Kind) → List kind.Tree → Bool
members_obey kind = list_all kind.obeys

abbrev pub required_members_obey : (kind : Kind) → List kind.Tree → Bool
required_members_obey kind members = has_some members && members_obey kind members

abbrev pub members_flaws : (kind : Kind) → List kind.Tree → List Flaw
members_flaws kind = flat_map kind.flaws
