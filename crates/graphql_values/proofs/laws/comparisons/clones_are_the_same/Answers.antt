use Rattle.graphql_values.proofs.comparisons.ValueEquality as value
use Rattle.graphql_values.proofs.kinds.WrappingLaws as type_reference
use Rattle.graphql_values.proofs.laws.comparisons.clones_are_the_same.Goals as goal

pub returns-clause-values : goal.returns-clause-values
returns-clause-values c = λ a b same. (same, value.clone_tree a b same)

pub returns-clause-types : goal.returns-clause-types
returns-clause-types c = λ a b same i. (same i, type_reference.clone_tree a b same i)
