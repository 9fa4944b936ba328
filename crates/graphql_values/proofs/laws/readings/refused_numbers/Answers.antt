use Rattle.std.proofs.Common.{refl}
use Rattle.graphql_text.proofs.examples.TextReadings.{parts_refuse}
use Rattle.graphql_values.specs.kinds.Values.{NonConst}
use Rattle.graphql_values.specs.lemmas.Values.{value_part}
use Rattle.graphql_values.proofs.examples.ValueReadings.{found}
use Rattle.graphql_values.proofs.laws.readings.refused_numbers.Goals as goal

pub returns : goal.returns
unfolding found
returns c = parts_refuse (value_part NonConst) _ refl
