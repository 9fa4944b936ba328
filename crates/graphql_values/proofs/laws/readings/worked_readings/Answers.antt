use Rattle.std.proofs.Common.{codes, refl, true, inr}
use Rattle.graphql_text.specs.grammar.Forms.{token, no_tokens, ◌⨟◌, optional_token, name_except}
use Rattle.graphql_text.proofs.examples.TextReadings.{part_reads, parts_read}
use Rattle.graphql_text.proofs.reader.ReaderSound.{lex_sound}
use Rattle.graphql_values.specs.examples.ValueExamples.{repeatable_directive}
use Rattle.graphql_values.specs.kinds.Values.{NonConst, boolean_value}
use Rattle.graphql_values.specs.lemmas.DirectiveDefinitions.{directive_definition_part}
use Rattle.graphql_values.specs.lemmas.Directives.{directive_part, directives_part}
use Rattle.graphql_values.specs.lemmas.InputValueDefinitions.{arguments_definition_part, input_value_definition_part}
use Rattle.graphql_values.specs.lemmas.OperationTypes.{operation_type_part}
use Rattle.graphql_values.specs.lemmas.Types.{type_part}
use Rattle.graphql_values.specs.lemmas.Values.{value_part, value_laws}
use Rattle.graphql_values.proofs.examples.ValueReadings.{printed}
use Rattle.graphql_values.proofs.laws.readings.worked_readings.Goals as goal

pub returns-clause-values : goal.returns-clause-values
unfolding printed
returns-clause-values c = parts_read (value_part NonConst) _ refl

pub returns-clause-boolean_alone : goal.returns-clause-boolean_alone
unfolding printed
returns-clause-boolean_alone c = λ value r.
    value_laws.one_tree (codes "true") value (boolean_value true) r (part_reads (value_part NonConst) (codes "true") _ refl refl refl)

pub returns-clause-types : goal.returns-clause-types
unfolding printed
returns-clause-types c = parts_read type_part _ refl

pub returns-clause-directives : goal.returns-clause-directives
unfolding printed
returns-clause-directives c = parts_read (directive_part NonConst) _ refl

pub returns-clause-directive_lists : goal.returns-clause-directive_lists
unfolding printed
returns-clause-directive_lists c = parts_read (directives_part NonConst) _ refl

pub returns-clause-input_value_definitions : goal.returns-clause-input_value_definitions
unfolding printed
returns-clause-input_value_definitions c = parts_read input_value_definition_part _ refl

-- the bar in front of the first location is printed of no tree
pub returns-clause-directive_definition : goal.returns-clause-directive_definition
unfolding printed token no_tokens optional_token name_except ◌⨟◌
returns-clause-directive_definition c =
    let text = codes "directive @d(a: Int @x, b: Int) repeatable on | FIELD | QUERY" in
    let arguments = arguments_definition_part.written repeatable_directive.body.arguments refl _ refl in (
      refl,
      _,
      lex_sound text _ refl,
      (
        _,
        refl,
        (
          _,
          refl,
          (_, refl, (_, (refl, refl), (_, arguments, (_, refl, (_, refl, (_, inr refl, (_, refl, (_, (_, refl, refl), refl)))))))),
        ),
      ),
    )

pub returns-clause-directive_definitions : goal.returns-clause-directive_definitions
unfolding printed
returns-clause-directive_definitions c = parts_read directive_definition_part _ refl

pub returns-clause-operation_types : goal.returns-clause-operation_types
unfolding printed
returns-clause-operation_types c = parts_read operation_type_part _ refl
