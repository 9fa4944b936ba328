-- The trees that operation types and directive locations of the code stand for, and the names of the root operation types.
use Rattle.std.specs.Prelude.{ℕ, List, codes}
use Rattle.graphql_values.specs.kinds.DirectiveLocations.{DirectiveLocationTree}
use Rattle.graphql_values.specs.kinds.OperationTypes.{OperationTypeTree}
use Rattle.graphql_values.specs.kinds.OperationTypes as operation_tree
use Rattle.graphql_values.specs.declared.directive_location.DirectiveLocation.{DirectiveLocation}
use Rattle.graphql_values.specs.declared.operation_type.OperationType.{OperationType}
use Rattle.graphql_values.specs.declared.operation_type.OperationType.TheVariants as operation

abbrev pub operation_type_tree : OperationType → OperationTypeTree
operation_type_tree operation.Query = operation_tree.Query
operation_type_tree operation.Mutation = operation_tree.Mutation
operation_type_tree operation.Subscription = operation_tree.Subscription

-- Default Root Operation Type Names, section 3.3.1
abbrev pub default_type_name : OperationTypeTree → List ℕ
default_type_name operation_tree.Query = codes "Query"
default_type_name operation_tree.Mutation = codes "Mutation"
default_type_name operation_tree.Subscription = codes "Subscription"

abbrev pub location_tree : DirectiveLocation → DirectiveLocationTree
location_tree location = location
