use Rattle.std.proofs.Common.{rules}
use Rattle.graphql_text.specs.code.Sinks.{SinkFaulted}
use Rattle.graphql_text.specs.lemmas.Sinks.{faulted_before}
use Rattle.graphql_text.proofs.target.send.Goals as goal

pub returns-then-is_err-clause-sent : goal.returns-then-is_err-clause-sent
returns-then-is_err-clause-sent g c =
    let fault : SinkFaulted g.S.TextSink.taken g.S.TextSink.fault_count c.args.out.now.sink.now c.waiting-unsent.result.now c.put_all.new.sink = search rules in
    let waiting = rw (c.waiting-unsent.ensures, c.add.ensures.full c.if-add.false) at fault in
    rw c.if-out.false (λ few. faulted_before c.args.text.now waiting)
