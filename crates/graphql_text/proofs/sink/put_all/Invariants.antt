use Rattle.std.proofs.Common.{◌≡◌, ℕ, List, ◌++◌, length}
use Rattle.graphql_text.specs.code.Sinks.{SinkTook}
use Rattle.graphql_text.proofs.sink.put_all.Given as goal

abbrev pub invariant-loop-rest : goal.invariant-loop-rest
invariant-loop-rest g l =
    (done : List ℕ) × (l.bytes ≡ done ++ l.rest) × SinkTook g.S.TextSink.taken g.S.TextSink.fault_count l.fn.sink done l.sink

abbrev pub decreases-loop-rest : goal.decreases-loop-rest
decreases-loop-rest g l = length l.rest
