-- Definitions of enum values: EnumValueDefinition, section 3.9.
use Rattle.std.specs.Prelude.{List, ◌∷◌, ◌&&◌, Some, ◌++◌}
use Rattle.graphql_text.specs.lexical.Literals.{NameText}
use Rattle.graphql_text.specs.lexical.Tokens.{Name}
use Rattle.graphql_text.specs.parts.Descriptions.{described}
use Rattle.graphql_text.specs.grammar.Forms.{◌⨟◌, name_except}
use Rattle.graphql_text.specs.kinds.Kinds.{Kind}
use Rattle.graphql_text.specs.layout.Layout.{Word}
use Rattle.graphql_values.specs.kinds.Directives.{DirectiveTree, directives_form, directives_shape, directives_nesting, directives_obey}
use Rattle.graphql_values.specs.kinds.Values.{Const, is_enum_name, not_enum_values}
use Rattle.graphql_text.specs.declared.ill_formed.SideCondition.TheVariants.{IsNotReserved}
use Rattle.graphql_text.specs.kinds.Flaws.{flaw_unless}
use Rattle.graphql_values.specs.kinds.Directives.{directives_flaws}

-- A definition without its description and without locations.
pub record EnumValueDefinitionTree : Type 0 where
  pub value : NameText
  pub directives : List DirectiveTree

abbrev pub enum_value_definition_body : Kind
enum_value_definition_body = record {
  Tree = EnumValueDefinitionTree;
  -- the grammar of EnumValueDefinition, section 3.9, behind its description. EnumValue is a name other than `true`, `false` and `null`.
  form = λ definition. name_except not_enum_values definition.value ⨟ directives_form Const definition.directives;
  -- the side conditions: the value is none of the three words, and the directives obey theirs, in a const context
  obeys = λ definition. is_enum_name definition.value.text && directives_obey Const definition.directives;
  flaws = λ definition.
      flaw_unless (is_enum_name definition.value.text) IsNotReserved (Some definition.value) ++ directives_flaws Const definition.directives;
  -- the layout of a definition, behind its description
  shape = λ broken front definition. Word (Name definition.value.text) ∷ directives_shape definition.directives;
  -- it nests as its directives do
  nesting = λ definition. directives_nesting definition.directives;
}

-- A definition, after its description.
abbrev pub enum_value_definition_kind : Kind
enum_value_definition_kind = described enum_value_definition_body
