use Rattle.std.proofs.Common.{◌≡◌, length}
use Rattle.graphql_ast.specs.DocumentQueries.{operations_left}
use Rattle.graphql_ast.proofs.document.look_ups.OperationsIterator.next.Given as goal

abbrev pub invariant-loop-first : goal.invariant-loop-first
invariant-loop-first l = operations_left l.self ≡ operations_left l.initial.self

abbrev pub decreases-loop-first : goal.decreases-loop-first
decreases-loop-first l = length l.self.rest.now
