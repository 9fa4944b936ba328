-- Definitions of input values: InputValueDefinition, section 3.6.1. They are arguments of fields and directives, and fields of input objects.
use Rattle.std.specs.Prelude.{max, List, [], ◌∷◌, ◌++◌, ◌&&◌, Option}
use Rattle.graphql_text.specs.lexical.Literals.{NameText}
use Rattle.graphql_text.specs.lexical.Tokens.{colon, Punctuation, Name}
use Rattle.graphql_text.specs.parts.Descriptions.{described}
use Rattle.graphql_text.specs.grammar.Forms.{token, ◌⨟◌, name_except}
use Rattle.graphql_text.specs.kinds.Kinds.{Kind}
use Rattle.graphql_text.specs.layout.Layout.{Word, Space}
use Rattle.graphql_values.specs.kinds.Values.{Const, ValueTree}
use Rattle.graphql_values.specs.kinds.TypeReferences.{TypeTree, type_form, type_shape}
use Rattle.graphql_values.specs.kinds.Directives.{DirectiveTree, directives_form, directives_shape, directives_nesting, directives_obey}
use Rattle.graphql_values.specs.kinds.Directives.{directives_flaws}
use Rattle.graphql_values.specs.kinds.DefaultValues.{default_value_form, default_value_shape, default_value_nesting, default_value_obeys}
use Rattle.graphql_values.specs.kinds.DefaultValues.{default_value_flaws}

-- A definition without its description and without locations.
pub record InputValueDefinitionTree : Type 0 where
  pub name : NameText
  pub type : TypeTree
  pub default_value : Option ValueTree
  pub directives : List DirectiveTree

abbrev pub input_value_definition_body : Kind
input_value_definition_body = record {
  Tree = InputValueDefinitionTree;
  -- the grammar of InputValueDefinition, section 3.6.1, behind its description
  form = λ input.
      name_except [] input.name ⨟ token (Punctuation colon) ⨟ type_form input.type ⨟ default_value_form input.default_value
      ⨟ directives_form Const input.directives;
  -- the side conditions are those of the default value and the directives, both in const contexts
  obeys = λ input. default_value_obeys input.default_value && directives_obey Const input.directives;
  flaws = λ input. default_value_flaws input.default_value ++ directives_flaws Const input.directives;
  -- the layout of a definition, behind its description
  shape = λ broken front input.
      Word (Name input.name.text) ∷ Word (Punctuation colon) ∷ Space
      ∷ (type_shape input.type ++ (default_value_shape broken input.default_value ++ directives_shape input.directives));
  -- it nests as its default value or its directives do, whichever nest more
  nesting = λ input. max (default_value_nesting input.default_value) (directives_nesting input.directives);
}

-- A definition, after its description.
abbrev pub input_value_definition_kind : Kind
input_value_definition_kind = described input_value_definition_body
