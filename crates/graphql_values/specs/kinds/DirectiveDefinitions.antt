-- Directive definitions: DirectiveDefinition, section 3.13.
use Rattle.std.specs.Prelude.{List, [], ◌∷◌, ◌++◌, codes, Bool, true, false, ◌&&◌, Some}
use Rattle.graphql_text.specs.lexical.Literals.{NameText}
use Rattle.graphql_text.specs.lexical.Tokens.{at, bar, Punctuation, Name}
use Rattle.graphql_text.specs.parts.Descriptions.{described}
use Rattle.graphql_text.specs.grammar.Forms.{Form, token, no_tokens, never, ◌⨟◌, keyword, name_except, joined_by}
use Rattle.graphql_text.specs.parts.JoinedNames.{joined_names_shape}
use Rattle.graphql_text.specs.declared.ill_formed.SideCondition.TheVariants.{HasLocation}
use Rattle.graphql_text.specs.kinds.Flaws.{flaw_unless}
use Rattle.graphql_text.specs.kinds.Kinds.{Kind}
use Rattle.graphql_text.specs.layout.Layout.{Item, Word, Space}
use Rattle.graphql_text.specs.parts.Members.{has_some}
use Rattle.graphql_values.specs.kinds.ArgumentsDefinitions.{arguments_definition_form, arguments_definition_shape}
use Rattle.graphql_values.specs.kinds.ArgumentsDefinitions.{arguments_definition_nesting, arguments_definition_obeys}
use Rattle.graphql_values.specs.kinds.ArgumentsDefinitions.{arguments_definition_flaws}
use Rattle.graphql_values.specs.kinds.DirectiveLocations.{DirectiveLocationTree, location_name, location_form}
use Rattle.graphql_values.specs.kinds.InputValueDefinitions.{input_value_definition_kind}

-- A directive definition without its description and without locations in a source text.
pub record DirectiveDefinitionTree : Type 0 where
  pub name : NameText
  pub arguments : List input_value_definition_kind.Tree
  pub repeatable : Bool
  pub locations : List DirectiveLocationTree

-- `repeatable`, where the definition says so
abbrev pub repeatable_form : Bool → Form
repeatable_form true = keyword (codes "repeatable")
repeatable_form false = no_tokens

-- `on` and DirectiveLocations, section 3.13: at least one, with `|` between them and perhaps one in front
abbrev pub directive_locations_form : List DirectiveLocationTree → Form
directive_locations_form [] = never
directive_locations_form (location ∷ more) = joined_by (Name (codes "on")) bar location_form (location ∷ more)

-- The layout of `repeatable`, after a space.
abbrev pub repeatable_shape : Bool → List Item
repeatable_shape true = Space ∷ Word (Name (codes "repeatable")) ∷ []
repeatable_shape false = []

abbrev pub directive_locations_shape : List DirectiveLocationTree → List Item
directive_locations_shape = joined_names_shape (Name (codes "on")) bar location_name

abbrev pub directive_definition_body : Kind
directive_definition_body = record {
  Tree = DirectiveDefinitionTree;
  -- the grammar of DirectiveDefinition, section 3.13, behind its description
  form = λ definition.
      keyword (codes "directive") ⨟ token (Punctuation at) ⨟ name_except [] definition.name ⨟ arguments_definition_form definition.arguments
      ⨟ repeatable_form definition.repeatable ⨟ directive_locations_form definition.locations;
  -- the side conditions: its arguments obey theirs, and it has a location
  obeys = λ definition. arguments_definition_obeys definition.arguments && has_some definition.locations;
  flaws = λ definition.
      arguments_definition_flaws definition.arguments ++ flaw_unless (has_some definition.locations) HasLocation (Some definition.name);
  -- the layout of a directive definition, behind its description
  shape = λ broken front definition.
      Word (Name (codes "directive")) ∷ Space ∷ Word (Punctuation at) ∷ Word (Name definition.name.text)
      ∷ (arguments_definition_shape broken definition.arguments ++ (repeatable_shape definition.repeatable ++ directive_locations_shape definition.locations));
  -- it nests as its arguments definition does
  nesting = λ definition. arguments_definition_nesting definition.arguments;
}

-- A definition, after its description.
abbrev pub directive_definition_kind : Kind
directive_definition_kind = described directive_definition_body
