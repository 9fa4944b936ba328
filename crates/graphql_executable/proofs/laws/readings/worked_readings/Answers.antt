use Rattle.std.proofs.Common.{[], codes, refl, inl}
use Rattle.graphql_text.specs.grammar.Forms.{either, only_if}
use Rattle.graphql_text.proofs.examples.TextReadings.{parts_read}
use Rattle.graphql_text.proofs.reader.ReaderSound.{lex_sound}
use Rattle.graphql_executable.specs.examples.ExecutableExamples.{set_of_a}
use Rattle.graphql_executable.specs.kinds.OperationDefinitions.{operation_form}
use Rattle.graphql_executable.specs.lemmas.Definitions.{fragment_definition_part, operation_definition_part}
use Rattle.graphql_executable.specs.lemmas.Selections.{selection_part, selection_set_part}
use Rattle.graphql_executable.specs.lemmas.VariableDefinitions.{variable_definition_part}
use Rattle.graphql_executable.proofs.examples.ExecutableReadings.{printed}
use Rattle.graphql_executable.proofs.laws.readings.worked_readings.Goals as goal

pub returns-clause-operation_definitions : goal.returns-clause-operation_definitions
unfolding printed
returns-clause-operation_definitions c = parts_read operation_definition_part _ refl

-- the shorthand is printed only at the front
pub returns-clause-shorthand : goal.returns-clause-shorthand
unfolding printed operation_form either only_if
returns-clause-shorthand c =
    let tokens = selection_set_part.tokens set_of_a [] in
    (refl, tokens, lex_sound (codes "{ a }") tokens refl, inl (refl, selection_set_part.written set_of_a refl [] refl))

pub returns-clause-variable_definitions : goal.returns-clause-variable_definitions
unfolding printed
returns-clause-variable_definitions c = parts_read variable_definition_part _ refl

pub returns-clause-selections : goal.returns-clause-selections
unfolding printed
returns-clause-selections c = parts_read selection_part _ refl

pub returns-clause-fragment_definitions : goal.returns-clause-fragment_definitions
unfolding printed
returns-clause-fragment_definitions c = parts_read fragment_definition_part _ refl
