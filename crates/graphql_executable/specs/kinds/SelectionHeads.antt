-- What stands before a selection set: a field (Field, section 2.5) and an inline fragment (InlineFragment, section 2.8) without theirs.
use Rattle.std.specs.Prelude.{ℕ, max, List, [], ◌∷◌, ◌++◌, Bool, ◌&&◌, Option}
use Rattle.graphql_text.specs.lexical.Literals.{NameText}
use Rattle.graphql_text.specs.lexical.Tokens.{spread, colon, Punctuation, Name}
use Rattle.graphql_text.specs.grammar.Forms.{Form, token, ◌⨟◌, name_except, optional}
use Rattle.graphql_text.specs.layout.Layout.{Item, Word, Space}
use Rattle.graphql_text.specs.parts.Optional.{optional_shape}
use Rattle.graphql_values.specs.kinds.Arguments.{ArgumentTree, arguments_form, arguments_shape, arguments_nesting, arguments_obey}
use Rattle.graphql_values.specs.kinds.Directives.{DirectiveTree, directives_form, directives_shape, directives_nesting, directives_obey}
use Rattle.graphql_values.specs.kinds.Values.{NonConst}
use Rattle.graphql_executable.specs.kinds.FragmentNames.{type_condition_form, type_condition_shape}
use Rattle.graphql_text.specs.kinds.Flaws.{Flaw}
use Rattle.graphql_values.specs.kinds.Arguments.{arguments_flaws}
use Rattle.graphql_values.specs.kinds.Directives.{directives_flaws}

-- FIELDS

-- A field without its selection set and without locations.
pub record FieldHeadTree : Type 0 where
  pub alias : Option NameText
  pub name : NameText
  pub arguments : List ArgumentTree
  pub directives : List DirectiveTree

-- Alias, section 2.7
abbrev pub alias_form : NameText → Form
alias_form alias = name_except [] alias ⨟ token (Punctuation colon)

-- The grammar of Field, section 2.5, before its selection set.
unfoldable pub field_head_form : FieldHeadTree → Form
field_head_form field =
    optional alias_form field.alias ⨟ name_except [] field.name ⨟ arguments_form NonConst field.arguments ⨟ directives_form NonConst field.directives

-- The layout of a field, before its selection set.
abbrev pub alias_shape : NameText → List Item
alias_shape alias = Word (Name alias.text) ∷ Word (Punctuation colon) ∷ Space ∷ []

unfoldable pub field_head_shape : FieldHeadTree → List Item
field_head_shape field =
    optional_shape alias_shape field.alias ++ (Word (Name field.name.text) ∷ (arguments_shape field.arguments ++ directives_shape field.directives))

abbrev pub field_head_nesting : FieldHeadTree → ℕ
field_head_nesting field = max (arguments_nesting field.arguments) (directives_nesting field.directives)

abbrev pub field_head_obeys : FieldHeadTree → Bool
field_head_obeys field = arguments_obey NonConst field.arguments && directives_obey NonConst field.directives

abbrev pub field_head_flaws : FieldHeadTree → List Flaw
field_head_flaws field = arguments_flaws NonConst field.arguments ++ directives_flaws NonConst field.directives

-- INLINE FRAGMENTS

-- An inline fragment without its selection set and without locations.
pub record InlineFragmentHeadTree : Type 0 where
  pub type_condition : Option NameText
  pub directives : List DirectiveTree

-- The grammar of InlineFragment, section 2.8, before its selection set.
unfoldable pub inline_fragment_head_form : InlineFragmentHeadTree → Form
inline_fragment_head_form fragment =
    token (Punctuation spread) ⨟ optional type_condition_form fragment.type_condition ⨟ directives_form NonConst fragment.directives

-- The layout of an inline fragment, before its selection set.
unfoldable pub inline_fragment_head_shape : InlineFragmentHeadTree → List Item
inline_fragment_head_shape fragment =
    Word (Punctuation spread) ∷ (optional_shape type_condition_shape fragment.type_condition ++ directives_shape fragment.directives)

abbrev pub inline_fragment_head_nesting : InlineFragmentHeadTree → ℕ
inline_fragment_head_nesting fragment = directives_nesting fragment.directives

abbrev pub inline_fragment_head_obeys : InlineFragmentHeadTree → Bool
inline_fragment_head_obeys fragment = directives_obey NonConst fragment.directives

abbrev pub inline_fragment_head_flaws : InlineFragmentHeadTree → List Flaw
inline_fragment_head_flaws fragment = directives_flaws NonConst fragment.directives
