-- Union types: UnionTypeDefinition and UnionTypeExtension, section 3.8.
use Rattle.std.specs.Prelude.{ℕ, List, [], ◌∷◌, ◌++◌, codes, ◌||◌, Some, Bool}
use Rattle.graphql_text.specs.lexical.Literals.{NameText}
use Rattle.graphql_text.specs.lexical.Tokens.{bar, equals, Punctuation, Name}
use Rattle.graphql_text.specs.parts.Descriptions.{described}
use Rattle.graphql_text.specs.parts.Extensions.{extension}
use Rattle.graphql_text.specs.grammar.Forms.{Form, ◌⨟◌, name_except, joined_by}
use Rattle.graphql_text.specs.parts.JoinedNames.{joined_names_shape}
use Rattle.graphql_text.specs.kinds.Kinds.{Kind}
use Rattle.graphql_text.specs.layout.Layout.{Word}
use Rattle.graphql_text.specs.parts.Members.{has_some}
use Rattle.graphql_values.specs.kinds.Directives.{DirectiveTree, directives_form, directives_shape, directives_nesting, directives_obey}
use Rattle.graphql_values.specs.kinds.Values.{Const}
use Rattle.graphql_type_system.specs.kinds.Keywords.{after_keyword}
use Rattle.graphql_values.specs.kinds.Directives.{directives_flaws}

-- A union type without its description and without locations.
pub record UnionTypeTree : Type 0 where
  pub name : NameText
  pub directives : List DirectiveTree
  pub members : List NameText

-- The grammar of UnionMemberTypes, section 3.8, or nothing where there is no member.
abbrev pub union_members_form : List NameText → Form
union_members_form = joined_by (Punctuation equals) bar (name_except [])

-- It nests as its directives do.
abbrev pub union_type_nesting : UnionTypeTree → ℕ
union_type_nesting union = directives_nesting union.directives

abbrev pub union_type : Kind
union_type = record {
  Tree = UnionTypeTree;
  -- the grammar of a union type, section 3.8, behind `union`
  form = λ union. name_except [] union.name ⨟ directives_form Const union.directives ⨟ union_members_form union.members;
  -- the side conditions are those of the directives, in a const context
  obeys = λ union. directives_obey Const union.directives;
  flaws = λ union. directives_flaws Const union.directives;
  -- the layout of a union type, behind `union`
  shape = λ broken front union.
      Word (Name union.name.text)
      ∷ (directives_shape union.directives ++ joined_names_shape (Punctuation equals) bar (λ name. name.text) union.members);
  nesting = union_type_nesting;
}

-- What a definition and an extension share.
abbrev pub union_type_body : Kind
union_type_body = after_keyword (codes "union") union_type

abbrev pub union_type_definition_kind : Kind
union_type_definition_kind = described union_type_body

-- An extension adds a directive or a member.
abbrev pub union_type_adds : UnionTypeTree → Bool
union_type_adds union = has_some union.directives || has_some union.members

abbrev pub union_type_extension_kind : Kind
union_type_extension_kind = extension union_type_body union_type_adds (λ union. Some union.name)
