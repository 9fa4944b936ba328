use Rattle.std.proofs.Common.{◌≡◌, length}
use Rattle.graphql_ast.specs.DocumentQueries.{fragments_left}
use Rattle.graphql_ast.proofs.document.look_ups.FragmentsIterator.next.Given as goal

abbrev pub invariant-loop-first : goal.invariant-loop-first
invariant-loop-first l = fragments_left l.self ≡ fragments_left l.initial.self

abbrev pub decreases-loop-first : goal.decreases-loop-first
decreases-loop-first l = length l.self.rest.now
