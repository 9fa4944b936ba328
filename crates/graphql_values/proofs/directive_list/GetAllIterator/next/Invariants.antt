use Rattle.std.proofs.Common.{◌≡◌, length}
use Rattle.graphql_values.specs.code.Queries.{directives_left}
use Rattle.graphql_values.proofs.directive_list.GetAllIterator.next.Given as goal

abbrev pub invariant-loop-first : goal.invariant-loop-first
invariant-loop-first l = directives_left l.self ≡ directives_left l.initial.self

abbrev pub decreases-loop-first : goal.decreases-loop-first
decreases-loop-first l = length l.self.rest.now
