use Rattle.std.proofs.Common.{codes, inr, refl}
use Rattle.graphql_text.specs.grammar.Forms.{◌⨟◌, name_except, no_tokens, no_brace, optional_token, token}
use Rattle.graphql_text.proofs.examples.TextReadings.{parts_read}
use Rattle.graphql_text.proofs.reader.ReaderSound.{lex_sound}
use Rattle.graphql_type_system.specs.lemmas.Bodies.{enum_value_definition_part, field_definition_part}
use Rattle.graphql_type_system.specs.lemmas.Kinds.{enum_type_definition_part, input_object_type_definition_part}
use Rattle.graphql_type_system.specs.lemmas.Kinds.{interface_type_definition_part, object_type_definition_part, scalar_type_definition_part}
use Rattle.graphql_type_system.specs.lemmas.Kinds.{schema_definition_part, union_type_definition_part}
use Rattle.graphql_type_system.proofs.examples.TypeSystemReadings.{printed}
use Rattle.graphql_type_system.proofs.laws.readings.definitions_are_read.Goals as goal

pub returns-clause-scalar_type_definitions : goal.returns-clause-scalar_type_definitions
unfolding printed
returns-clause-scalar_type_definitions c = parts_read scalar_type_definition_part _ refl

pub returns-clause-field_definitions : goal.returns-clause-field_definitions
unfolding printed
returns-clause-field_definitions c = parts_read field_definition_part _ refl

pub returns-clause-object_type_definitions : goal.returns-clause-object_type_definitions
unfolding printed
returns-clause-object_type_definitions c = parts_read object_type_definition_part _ refl

pub returns-clause-interface_type_definitions : goal.returns-clause-interface_type_definitions
unfolding printed
returns-clause-interface_type_definitions c = parts_read interface_type_definition_part _ refl

pub returns-clause-union_type_definitions : goal.returns-clause-union_type_definitions
unfolding printed
returns-clause-union_type_definitions c = parts_read union_type_definition_part _ refl

pub returns-clause-enum_value_definitions : goal.returns-clause-enum_value_definitions
unfolding printed
returns-clause-enum_value_definitions c = parts_read enum_value_definition_part _ refl

pub returns-clause-enum_type_definitions : goal.returns-clause-enum_type_definitions
unfolding printed
returns-clause-enum_type_definitions c = parts_read enum_type_definition_part _ refl

pub returns-clause-input_object_type_definitions : goal.returns-clause-input_object_type_definitions
unfolding printed
returns-clause-input_object_type_definitions c = parts_read input_object_type_definition_part _ refl

pub returns-clause-schema_definitions : goal.returns-clause-schema_definitions
unfolding printed
returns-clause-schema_definitions c = parts_read schema_definition_part _ refl

-- what stands before the first name is printed of no tree
pub returns-clause-leading_ampersand : goal.returns-clause-leading_ampersand
unfolding ◌⨟◌ token no_tokens no_brace optional_token name_except
returns-clause-leading_ampersand c = (
  refl,
  _,
  lex_sound (codes "type T implements & A & B") _ refl,
  (
    _,
    refl,
    (
      _,
      refl,
      (
        _,
        (refl, refl),
        (_, (_, refl, (_, inr refl, (_, (refl, refl), (_, (_, refl, (refl, refl)), refl)))), (_, refl, (refl, refl))),
      ),
    ),
  ),
)

pub returns-clause-leading_bar : goal.returns-clause-leading_bar
unfolding ◌⨟◌ token no_tokens optional_token name_except
returns-clause-leading_bar c =
    (refl, _, lex_sound (codes "union U = | A") _ refl, (_, refl, (_, refl, (_, (refl, refl), (_, refl, (_, refl, (_, inr refl, (_, (refl, refl), refl))))))))
