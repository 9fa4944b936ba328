-- What the kinds of the type system are printed as and what their readers find, by computing.
use Rattle.std.proofs.Common.{ℕ, Bool, List, Option}
use Rattle.graphql_text.specs.lexical.Tokens.{Token}
use Rattle.graphql_text.specs.grammar.Forms.{Form, TokenClass}
use Rattle.graphql_text.specs.layout.Layout.{Item}
use Rattle.graphql_text.proofs.parts.Parts.{Part}
use Rattle.graphql_values.proofs.examples.ValueReadings as readings
use Rattle.graphql_type_system.specs.lemmas.Bodies as bodies
use Rattle.graphql_type_system.specs.lemmas.Kinds as kinds

module _ {A : Type 0} {f : A → Form} {s : Bool → A → List Item} {n : A → ℕ} {o : A → Bool} {F L S : List TokenClass} {b opens : Bool}
    (p : Part f s n o F L b S opens) where
  -- the tokens of a tree as it is printed
  unfoldable pub printed : A → List Token
  unfolding readings.printed bodies.after_keyword_part bodies.scalar_type_part bodies.scalar_type_body_part
      bodies.field_definition_body_part bodies.field_definition_part bodies.implementing_type_part bodies.object_type_body_part
      bodies.interface_type_body_part bodies.union_type_part bodies.union_type_body_part bodies.enum_value_definition_body_part
      bodies.enum_value_definition_part bodies.braced_type_part bodies.enum_type_body_part bodies.input_object_type_body_part
      bodies.root_operation_part bodies.schema_body_part bodies.extended_schema_body_part kinds.schema_definition_part
      kinds.scalar_type_definition_part kinds.object_type_definition_part kinds.interface_type_definition_part
      kinds.union_type_definition_part kinds.enum_type_definition_part kinds.input_object_type_definition_part kinds.schema_extension_part
      kinds.scalar_type_extension_part kinds.object_type_extension_part kinds.interface_type_extension_part kinds.union_type_extension_part
      kinds.enum_type_extension_part kinds.input_object_type_extension_part
  printed a = readings.printed p a

  -- what its reader finds
  unfoldable pub found : List Token → Option (A × List Token)
  unfolding readings.found bodies.after_keyword_part bodies.scalar_type_part bodies.scalar_type_body_part bodies.field_definition_body_part
      bodies.field_definition_part bodies.implementing_type_part bodies.object_type_body_part bodies.interface_type_body_part
      bodies.union_type_part bodies.union_type_body_part bodies.enum_value_definition_body_part bodies.enum_value_definition_part
      bodies.braced_type_part bodies.enum_type_body_part bodies.input_object_type_body_part bodies.root_operation_part
      bodies.schema_body_part bodies.extended_schema_body_part kinds.schema_definition_part kinds.scalar_type_definition_part
      kinds.object_type_definition_part kinds.interface_type_definition_part kinds.union_type_definition_part
      kinds.enum_type_definition_part kinds.input_object_type_definition_part kinds.schema_extension_part kinds.scalar_type_extension_part
      kinds.object_type_extension_part kinds.interface_type_extension_part kinds.union_type_extension_part kinds.enum_type_extension_part
      kinds.input_object_type_extension_part
  found tokens = readings.found p tokens
