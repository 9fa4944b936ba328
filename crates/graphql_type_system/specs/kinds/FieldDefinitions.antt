-- Definitions of fields: FieldDefinition, section 3.6.
use Rattle.std.specs.Prelude.{ℕ, max, List, [], ◌∷◌, ◌++◌, ◌&&◌}
use Rattle.graphql_text.specs.lexical.Literals.{NameText}
use Rattle.graphql_text.specs.lexical.Tokens.{colon, Punctuation, Name}
use Rattle.graphql_text.specs.parts.Descriptions.{described}
use Rattle.graphql_text.specs.grammar.Forms.{◌⨟◌, token, name_except}
use Rattle.graphql_text.specs.kinds.Kinds.{Kind}
use Rattle.graphql_text.specs.layout.Layout.{Word, Space}
use Rattle.graphql_values.specs.kinds.ArgumentsDefinitions.{arguments_definition_form, arguments_definition_shape}
use Rattle.graphql_values.specs.kinds.ArgumentsDefinitions.{arguments_definition_nesting, arguments_definition_obeys, arguments_list_depth}
use Rattle.graphql_values.specs.kinds.Directives.{DirectiveTree, directives_form, directives_shape, directives_nesting, directives_obey}
use Rattle.graphql_values.specs.kinds.InputValueDefinitions.{input_value_definition_kind}
use Rattle.graphql_values.specs.kinds.TypeReferences.{TypeTree, type_form, type_shape, list_depth}
use Rattle.graphql_values.specs.kinds.Values.{Const}
use Rattle.graphql_values.specs.kinds.ArgumentsDefinitions.{arguments_definition_flaws}
use Rattle.graphql_values.specs.kinds.Directives.{directives_flaws}

-- A definition without its description and without locations.
pub record FieldDefinitionTree : Type 0 where
  pub name : NameText
  pub arguments : List input_value_definition_kind.Tree
  pub type : TypeTree
  pub directives : List DirectiveTree

-- the list depth of its type, or of the type of an argument that has more lists
abbrev pub field_definition_list_depth : FieldDefinitionTree → ℕ
field_definition_list_depth field = max (arguments_list_depth field.arguments) (list_depth field.type)

abbrev pub field_definition_body : Kind
field_definition_body = record {
  Tree = FieldDefinitionTree;
  -- the grammar of FieldDefinition, section 3.6, behind its description
  form = λ field.
      name_except [] field.name ⨟ arguments_definition_form field.arguments ⨟ token (Punctuation colon) ⨟ type_form field.type
      ⨟ directives_form Const field.directives;
  -- the side conditions are those of its arguments and of its directives, in const contexts
  obeys = λ field. arguments_definition_obeys field.arguments && directives_obey Const field.directives;
  flaws = λ field. arguments_definition_flaws field.arguments ++ directives_flaws Const field.directives;
  -- the layout of a definition, behind its description. Its arguments have the mode around it.
  shape = λ broken front field.
      Word (Name field.name.text) ∷ (arguments_definition_shape broken field.arguments
      ++ (Word (Punctuation colon) ∷ Space ∷ (type_shape field.type ++ directives_shape field.directives)));
  -- it nests as its arguments definition or its directives do, whichever nest more
  nesting = λ field. max (arguments_definition_nesting field.arguments) (directives_nesting field.directives);
}

-- A definition, after its description.
abbrev pub field_definition_kind : Kind
field_definition_kind = described field_definition_body
