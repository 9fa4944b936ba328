use Rattle.graphql_values.proofs.comparisons.DefinitionEquality.{locations_decide}
use Rattle.graphql_values.proofs.comparisons.DirectiveEquality.{arguments_decide}
use Rattle.graphql_values.proofs.laws.comparisons.compared_by_tree.Goals as goal

pub returns-clause-arguments : goal.returns-clause-arguments
returns-clause-arguments c = arguments_decide

pub returns-clause-locations : goal.returns-clause-locations
returns-clause-locations c = locations_decide
