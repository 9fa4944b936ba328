-- Variable definitions: VariableDefinition and VariableDefinitions, section 2.10; they may have a description.
use Rattle.std.specs.Prelude.{ℕ, max, List, [], ◌∷◌, ◌++◌, Bool, false, ◌&&◌, Option, is_some}
use Rattle.std.specs.List.{list_all, flat_map}
use Rattle.graphql_text.specs.lexical.Literals.{NameText}
use Rattle.graphql_text.specs.lexical.Tokens.{dollar, colon, Punctuation, Name}
use Rattle.graphql_text.specs.parts.Descriptions.{described}
use Rattle.graphql_text.specs.grammar.Forms.{Form, token, ◌⨟◌, name_except}
use Rattle.graphql_text.specs.parts.Greatest.{greatest}
use Rattle.graphql_text.specs.kinds.Kinds.{Kind}
use Rattle.graphql_text.specs.layout.Layout.{Item, Word, Space}
use Rattle.graphql_text.specs.parts.Parentheses.{parentheses_form, parentheses_shape, parentheses_nesting}
use Rattle.graphql_values.specs.kinds.DefaultValues.{default_value_form, default_value_shape, default_value_nesting, default_value_obeys}
use Rattle.graphql_values.specs.kinds.Directives.{DirectiveTree, directives_form, directives_shape, directives_nesting, directives_obey}
use Rattle.graphql_values.specs.kinds.TypeReferences.{TypeTree, type_form, type_shape, list_depth}
use Rattle.graphql_values.specs.kinds.Values.{Const, ValueTree}
use Rattle.graphql_text.specs.kinds.Flaws.{Flaw}
use Rattle.graphql_values.specs.kinds.Directives.{directives_flaws}
use Rattle.graphql_values.specs.kinds.DefaultValues.{default_value_flaws}

-- A variable definition without its description and without locations.
pub record VariableDefinitionTree : Type 0 where
  pub name : NameText
  pub type : TypeTree
  pub default_value : Option ValueTree
  pub directives : List DirectiveTree

abbrev pub variable_definition_body : Kind
variable_definition_body = record {
  Tree = VariableDefinitionTree;
  -- the grammar of VariableDefinition, section 2.10, behind its description
  form = λ variable.
      token (Punctuation dollar) ⨟ name_except [] variable.name ⨟ token (Punctuation colon) ⨟ type_form variable.type
      ⨟ default_value_form variable.default_value ⨟ directives_form Const variable.directives;
  -- the side conditions are those of the default value and the directives, both in const contexts
  obeys = λ variable. default_value_obeys variable.default_value && directives_obey Const variable.directives;
  flaws = λ variable. default_value_flaws variable.default_value ++ directives_flaws Const variable.directives;
  -- the layout of a variable definition, behind its description
  shape = λ broken front variable.
      Word (Punctuation dollar) ∷ Word (Name variable.name.text) ∷ Word (Punctuation colon) ∷ Space
      ∷ (type_shape variable.type ++ (default_value_shape broken variable.default_value ++ directives_shape variable.directives));
  -- it nests as its default value or its directives do, whichever nest more
  nesting = λ variable. max (default_value_nesting variable.default_value) (directives_nesting variable.directives);
}

-- A variable definition, after its description.
abbrev pub variable_definition_kind : Kind
variable_definition_kind = described variable_definition_body

-- The grammar of VariableDefinitions, section 2.10, or nothing where there is no variable.
abbrev pub variable_definitions_form : List variable_definition_kind.Tree → Form
variable_definitions_form = parentheses_form variable_definition_kind.form

-- a variable with a description wants a line of its own; a directive alone doesn't ask for one
abbrev pub wants_lines : variable_definition_kind.Tree → Bool
wants_lines variable = is_some variable.description

-- The layout of variable definitions. They stand on one line in every layout, unless one of them wants a line of its own; then they have the
-- mode around them.
abbrev pub variable_definitions_shape : Bool → List variable_definition_kind.Tree → List Item
variable_definitions_shape = parentheses_shape wants_lines (λ broken. variable_definition_kind.shape broken false)

abbrev pub variable_definitions_nesting : List variable_definition_kind.Tree → ℕ
variable_definitions_nesting = parentheses_nesting variable_definition_kind.nesting

abbrev pub variable_definitions_obey : List variable_definition_kind.Tree → Bool
variable_definitions_obey = list_all variable_definition_kind.obeys

abbrev pub variable_definitions_flaws : List variable_definition_kind.Tree → List Flaw
variable_definitions_flaws = flat_map variable_definition_kind.flaws

-- the list depth of the type that has the most lists
abbrev pub variables_list_depth : List variable_definition_kind.Tree → ℕ
variables_list_depth = greatest (λ variable. list_depth variable.body.type)
