use Rattle.std.proofs.Common.{refl}
use Rattle.graphql_text.proofs.examples.TextReadings.{parts_refuse}
use Rattle.graphql_executable.specs.lemmas.Definitions.{fragment_definition_part, operation_definition_part}
use Rattle.graphql_executable.specs.lemmas.Heads.{fragment_spread_part}
use Rattle.graphql_executable.specs.lemmas.Selections.{field_part, inline_fragment_part}
use Rattle.graphql_executable.proofs.examples.ExecutableReadings.{found}
use Rattle.graphql_executable.proofs.laws.readings.refused_readings.Goals as goal

pub returns-clause-operation_definitions : goal.returns-clause-operation_definitions
unfolding found
returns-clause-operation_definitions c = parts_refuse operation_definition_part _ refl

pub returns-clause-fields : goal.returns-clause-fields
unfolding found
returns-clause-fields c = parts_refuse field_part _ refl

pub returns-clause-fragment_spreads : goal.returns-clause-fragment_spreads
unfolding found
returns-clause-fragment_spreads c = parts_refuse fragment_spread_part _ refl

pub returns-clause-inline_fragments : goal.returns-clause-inline_fragments
unfolding found
returns-clause-inline_fragments c = parts_refuse inline_fragment_part _ refl

pub returns-clause-fragment_definitions : goal.returns-clause-fragment_definitions
unfolding found
returns-clause-fragment_definitions c = parts_refuse fragment_definition_part _ refl
