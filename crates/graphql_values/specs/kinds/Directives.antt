-- Directives: Directive and Directives, section 2.12.
use Rattle.std.specs.Prelude.{ℕ, List, [], ◌∷◌, ◌++◌, Bool}
use Rattle.std.specs.List.{list_all, flat_map}
use Rattle.graphql_text.specs.lexical.Literals.{NameText}
use Rattle.graphql_text.specs.lexical.Tokens.{at, Punctuation, Name}
use Rattle.graphql_text.specs.grammar.Forms.{Form, token, ◌⨟◌, list_of, name_except}
use Rattle.graphql_text.specs.parts.Greatest.{greatest}
use Rattle.graphql_text.specs.kinds.Flaws.{Flaw}
use Rattle.graphql_text.specs.kinds.Kinds.{Kind}
use Rattle.graphql_text.specs.layout.Layout.{Item, Word, Space}
use Rattle.graphql_values.specs.kinds.Values.{Constness, NonConst}
use Rattle.graphql_values.specs.kinds.Arguments.{ArgumentTree, arguments_form, arguments_shape, arguments_nesting, arguments_obey, arguments_flaws}

-- A directive without locations.
pub record DirectiveTree : Type 0 where
  pub name : NameText
  pub arguments : List ArgumentTree

-- The grammar of Directive[Const], section 2.12.
unfoldable pub directive_form : Constness → DirectiveTree → Form
directive_form c directive = token (Punctuation at) ⨟ name_except [] directive.name ⨟ arguments_form c directive.arguments

-- The layout of a directive.
unfoldable pub directive_shape : DirectiveTree → List Item
directive_shape directive = Word (Punctuation at) ∷ Word (Name directive.name.text) ∷ arguments_shape directive.arguments

-- It nests as its arguments do.
abbrev pub directive_nesting : DirectiveTree → ℕ
directive_nesting directive = arguments_nesting directive.arguments

-- The side conditions are those of the arguments.
abbrev pub directive_obeys : Constness → DirectiveTree → Bool
directive_obeys c directive = arguments_obey c directive.arguments

abbrev pub directive_flaws : Constness → DirectiveTree → List Flaw
directive_flaws c directive = arguments_flaws c directive.arguments

-- A directive by itself isn't in a const context.
abbrev pub directive_kind : Kind
directive_kind = record {
  Tree = DirectiveTree;
  form = directive_form NonConst;
  obeys = directive_obeys NonConst;
  flaws = directive_flaws NonConst;
  shape = λ broken front. directive_shape;
  nesting = directive_nesting;
}

-- The grammar of Directives[Const], section 2.12, or nothing where there is no directive.
abbrev pub directives_form : Constness → List DirectiveTree → Form
directives_form c = list_of (directive_form c)

-- Each directive of a list has a space before it, the first too.
abbrev pub directives_shape : List DirectiveTree → List Item
directives_shape [] = []
directives_shape (directive ∷ more) = Space ∷ (directive_shape directive ++ directives_shape more)

-- A list nests as the directive that nests most.
abbrev pub directives_nesting : List DirectiveTree → ℕ
directives_nesting = greatest directive_nesting

abbrev pub directives_obey : Constness → List DirectiveTree → Bool
directives_obey c = list_all (directive_obeys c)

abbrev pub directives_flaws : Constness → List DirectiveTree → List Flaw
directives_flaws c = flat_map (directive_flaws c)

-- A list by itself isn't in a const context, and may be empty.
abbrev pub directives_kind : Kind
directives_kind = record {
  Tree = List DirectiveTree;
  form = directives_form NonConst;
  obeys = directives_obey NonConst;
  flaws = directives_flaws NonConst;
  shape = λ broken front. directives_shape;
  nesting = directives_nesting;
}
