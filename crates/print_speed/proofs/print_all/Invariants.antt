-- A print that came through counts no fault, so the next one may begin.
use Rattle.graphql_text.specs.code.Sinks.{CanFault}
use Rattle.print_speed.proofs.print_all.Given as goal

abbrev pub invariant-loop-tree : goal.invariant-loop-tree
invariant-loop-tree g l = CanFault (g.S.TextSink.fault_count l.sink)
