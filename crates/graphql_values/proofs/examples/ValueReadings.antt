-- What parts are printed as and what their readers find, by computing.
use Rattle.std.proofs.Common.{ℕ, Bool, List, Option}
use Rattle.graphql_text.specs.lexical.Tokens.{Token}
use Rattle.graphql_text.specs.grammar.Forms.{Form, TokenClass}
use Rattle.graphql_text.specs.layout.Layout.{Item}
use Rattle.graphql_text.proofs.parts.Parts.{Part}
use Rattle.graphql_text.proofs.examples.TextReadings as readings
use Rattle.graphql_values.specs.lemmas.DirectiveDefinitions as directive_definitions
use Rattle.graphql_values.specs.lemmas.Directives as directives
use Rattle.graphql_values.specs.lemmas.InputValueDefinitions as input_value_definitions
use Rattle.graphql_values.specs.lemmas.OperationTypes as operation_types
use Rattle.graphql_values.specs.lemmas.Types as types
use Rattle.graphql_values.specs.lemmas.Values as values

module _ {A : Type 0} {f : A → Form} {s : Bool → A → List Item} {n : A → ℕ} {o : A → Bool} {F L S : List TokenClass} {b opens : Bool}
    (p : Part f s n o F L b S opens) where
  -- the tokens of a tree as it is printed
  unfoldable pub printed : A → List Token
  unfolding readings.printed values.value_tokens values.value_part types.type_tokens types.type_part directives.argument_items_part
      directives.argument_part directives.arguments_part directives.directive_part directives.directives_part
      input_value_definitions.default_value_part input_value_definitions.input_value_definition_body_part
      input_value_definitions.input_value_definition_part input_value_definitions.arguments_definition_part
      directive_definitions.repeatable_tokens directive_definitions.repeatable_part directive_definitions.directive_locations_part
      directive_definitions.directive_definition_body_part directive_definitions.directive_definition_part
      operation_types.operation_type_part
  printed a = readings.printed p a

  -- what its reader finds
  unfoldable pub found : List Token → Option (A × List Token)
  unfolding readings.found values.value_part values.value_reader values.value_step values.values_reader values.object_fields_reader
      values.object_field_reader values.variable_reader values.unless_const values.got_int values.got_float values.with_field
      types.type_part types.type_reader types.type_step types.list_end types.bang_reader types.maybe_non_null_name types.maybe_non_null_list
      directives.argument_items_part directives.argument_part directives.arguments_part directives.directive_part directives.directives_part
      input_value_definitions.default_value_part input_value_definitions.input_value_definition_body_part
      input_value_definitions.input_value_definition_part input_value_definitions.arguments_definition_part
      directive_definitions.repeatable_reader directive_definitions.repeatable_part directive_definitions.location_of
      directive_definitions.all_locations directive_definitions.got_location directive_definitions.location_reader
      directive_definitions.directive_locations_reader directive_definitions.directive_locations_part
      directive_definitions.directive_definition_body_part directive_definitions.directive_definition_part
      operation_types.operation_word_reader operation_types.operation_type_reader operation_types.operation_type_part
  found tokens = readings.found p tokens
