use Rattle.graphql_values.proofs.kinds.WrappingLaws.{assignable_reflexive, assignable_transitive, assignable_antisymmetric}
use Rattle.graphql_values.proofs.laws.types.assignability_is_an_order.Goals as goal

pub returns-clause-reflexive : goal.returns-clause-reflexive
returns-clause-reflexive c = assignable_reflexive

pub returns-clause-transitive : goal.returns-clause-transitive
returns-clause-transitive c = assignable_transitive

pub returns-clause-antisymmetric : goal.returns-clause-antisymmetric
returns-clause-antisymmetric c = assignable_antisymmetric
