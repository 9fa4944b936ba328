use Rattle.graphql_values.specs.contracts.literal.IntValueHash.TheImpl.Laws as int
use Rattle.graphql_values.specs.contracts.literal.FloatValueHash.TheImpl.Laws as float
use Rattle.graphql_values.specs.contracts.argument.ArgumentHash.TheImpl.Laws as argument
use Rattle.graphql_values.specs.contracts.operation_type.OperationTypeHash.TheImpl.Laws as operation_type
use Rattle.graphql_values.specs.contracts.directive_location.DirectiveLocationHash.TheImpl.Laws as location
use Rattle.graphql_values.proofs.laws.comparisons.equal_trees_hash_alike.Goals as goal

pub returns-clause-ints : goal.returns-clause-ints
returns-clause-ints c = int.respects_eq-law

pub returns-clause-floats : goal.returns-clause-floats
returns-clause-floats c = float.respects_eq-law

pub returns-clause-arguments : goal.returns-clause-arguments
returns-clause-arguments c = argument.respects_eq-law

pub returns-clause-operation_types : goal.returns-clause-operation_types
returns-clause-operation_types c = operation_type.respects_eq-law

pub returns-clause-locations : goal.returns-clause-locations
returns-clause-locations c = location.respects_eq-law
