use Rattle.graphql_values.specs.lemmas.Directives.{argument_laws}
use Rattle.graphql_values.proofs.laws.arguments_are_read_back.Goals as goal

pub returns : goal.returns
returns c = argument_laws
