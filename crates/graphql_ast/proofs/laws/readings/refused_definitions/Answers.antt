use Rattle.std.proofs.Common.{refl}
use Rattle.graphql_text.proofs.examples.TextReadings.{parts_refuse}
use Rattle.graphql_ast.specs.lemmas.Definitions.{definition_part}
use Rattle.graphql_ast.proofs.examples.DocumentReadings.{found}
use Rattle.graphql_ast.proofs.laws.readings.refused_definitions.Goals as goal

pub returns : goal.returns
unfolding found
returns c = parts_refuse definition_part _ refl
