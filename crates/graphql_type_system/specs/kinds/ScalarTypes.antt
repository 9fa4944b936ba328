-- Scalar types: ScalarTypeDefinition and ScalarTypeExtension, section 3.5.
use Rattle.std.specs.Prelude.{ℕ, List, [], ◌∷◌, codes, Some}
use Rattle.graphql_text.specs.lexical.Literals.{NameText}
use Rattle.graphql_text.specs.lexical.Tokens.{Name}
use Rattle.graphql_text.specs.parts.Descriptions.{described}
use Rattle.graphql_text.specs.parts.Extensions.{extension}
use Rattle.graphql_text.specs.grammar.Forms.{◌⨟◌, name_except}
use Rattle.graphql_text.specs.kinds.Kinds.{Kind}
use Rattle.graphql_text.specs.layout.Layout.{Word}
use Rattle.graphql_text.specs.parts.Members.{has_some}
use Rattle.graphql_values.specs.kinds.Directives.{DirectiveTree, directives_form, directives_shape, directives_nesting, directives_obey}
use Rattle.graphql_values.specs.kinds.Values.{Const}
use Rattle.graphql_type_system.specs.kinds.Keywords.{after_keyword}
use Rattle.graphql_values.specs.kinds.Directives.{directives_flaws}

-- A scalar type without its description and without locations.
pub record ScalarTypeTree : Type 0 where
  pub name : NameText
  pub directives : List DirectiveTree

-- It nests as its directives do.
abbrev pub scalar_type_nesting : ScalarTypeTree → ℕ
scalar_type_nesting scalar = directives_nesting scalar.directives

abbrev pub scalar_type : Kind
scalar_type = record {
  Tree = ScalarTypeTree;
  -- the grammar of a scalar type, section 3.5, behind `scalar`
  form = λ scalar. name_except [] scalar.name ⨟ directives_form Const scalar.directives;
  -- the side conditions are those of the directives, in a const context
  obeys = λ scalar. directives_obey Const scalar.directives;
  flaws = λ scalar. directives_flaws Const scalar.directives;
  -- the layout of a scalar type, behind `scalar`
  shape = λ broken front scalar. Word (Name scalar.name.text) ∷ directives_shape scalar.directives;
  nesting = scalar_type_nesting;
}

-- What a definition and an extension share.
abbrev pub scalar_type_body : Kind
scalar_type_body = after_keyword (codes "scalar") scalar_type

abbrev pub scalar_type_definition_kind : Kind
scalar_type_definition_kind = described scalar_type_body

-- An extension adds a directive.
abbrev pub scalar_type_extension_kind : Kind
scalar_type_extension_kind = extension scalar_type_body (λ scalar. has_some scalar.directives) (λ scalar. Some scalar.name)
