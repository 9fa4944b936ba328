use Rattle.std.proofs.Common.{◌≡◌, length}
use Rattle.graphql_ast.specs.DocumentQueries.{extensions_left}
use Rattle.graphql_ast.proofs.document.look_ups.ExtensionsIterator.next.Given as goal

abbrev pub invariant-loop-first : goal.invariant-loop-first
invariant-loop-first l = extensions_left l.self ≡ extensions_left l.initial.self

abbrev pub decreases-loop-first : goal.decreases-loop-first
decreases-loop-first l = length l.self.rest.now
