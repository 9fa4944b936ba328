use Rattle.std.proofs.Common.{refl}
use Rattle.graphql_text.proofs.examples.TextReadings.{parts_read}
use Rattle.graphql_values.specs.kinds.Values.{NonConst}
use Rattle.graphql_values.specs.lemmas.Values.{value_part}
use Rattle.graphql_values.proofs.examples.ValueReadings.{printed}
use Rattle.graphql_values.proofs.laws.readings.worked_strings.Goals as goal

pub returns : goal.returns
unfolding printed
returns c = parts_read (value_part NonConst) _ refl
