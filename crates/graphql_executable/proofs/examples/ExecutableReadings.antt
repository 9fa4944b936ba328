-- What parts are printed as and what their readers find, by computing.
use Rattle.std.proofs.Common.{ℕ, Bool, List, Option}
use Rattle.graphql_text.specs.lexical.Tokens.{Token}
use Rattle.graphql_text.specs.grammar.Forms.{Form, TokenClass}
use Rattle.graphql_text.specs.layout.Layout.{Item}
use Rattle.graphql_text.proofs.parts.Parts.{Part}
use Rattle.graphql_values.proofs.examples.ValueReadings as readings
use Rattle.graphql_executable.specs.lemmas.Definitions as definitions
use Rattle.graphql_executable.specs.lemmas.Heads as heads
use Rattle.graphql_executable.specs.lemmas.Selections as selections
use Rattle.graphql_executable.specs.lemmas.VariableDefinitions as variables

module _ {A : Type 0} {f : A → Form} {s : Bool → A → List Item} {n : A → ℕ} {o : A → Bool} {F L S : List TokenClass} {b opens : Bool}
    (p : Part f s n o F L b S opens) where
  -- the tokens of a tree as it is printed
  unfoldable pub printed : A → List Token
  unfolding readings.printed heads.spread_rest_part heads.fragment_spread_part heads.type_condition_part heads.inline_fragment_rest_part
      heads.inline_fragment_head_part heads.aliased heads.field_head_part selections.selection_tokens selections.selection_part
      selections.selection_set_part selections.optional_selection_set_part selections.field_part selections.inline_fragment_part
      variables.variable_definition_body_part variables.variable_definition_part variables.variable_definitions_part
      definitions.fragment_definition_body_part definitions.fragment_definition_part definitions.operation_definition_body_part
      definitions.full_operation_part definitions.operation_definition_part
  printed a = readings.printed p a

  -- what its reader finds
  unfoldable pub found : List Token → Option (A × List Token)
  unfolding readings.found heads.spread_rest_part heads.fragment_spread_part heads.type_condition_part heads.inline_fragment_rest_part
      heads.inline_fragment_head_part heads.aliased_reader heads.aliased heads.field_head_part selections.set_reader
      selections.optional_set_reader selections.selection_step selections.selections_reader selections.selection_part
      selections.selection_set_part selections.optional_selection_set_part selections.field_part selections.inline_fragment_part
      variables.variable_definition_body_part variables.variable_definition_part variables.variable_definitions_part
      definitions.fragment_definition_body_part definitions.fragment_definition_part definitions.operation_definition_body_part
      definitions.full_operation_part definitions.bare_query definitions.operation_reader definitions.operation_definition_part
  found tokens = readings.found p tokens
