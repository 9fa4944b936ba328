use Rattle.std.proofs.Common.{◌∙◌}
use Rattle.graphql_text.specs.code.Buffer.{waiting_bytes}
use Rattle.graphql_text.specs.lemmas.Sinks.{buffered_more}
use Rattle.graphql_text.proofs.target.ToSinkTarget.padded_then.Goals as goal

pub returns-then-not-add_padded_then : goal.returns-then-not-add_padded_then
returns-then-not-add_padded_then g c =
    let a = c.args.self.now in
    let b = c.send.new.out in
    let d = c.send-then-not-add_padded_then.new.out in
    let first = rw (c.if-not-add_padded_then.ensures.full, c.as_str.ensures) at c.send.ensures.sent in (
      c.send-then-not-add_padded_then.ensures.name ∙ c.send.ensures.name,
      buffered_more g.S.TextSink.taken g.S.TextSink.fault_count a.sink.now b.sink.now d.sink.now a.stopped b.stopped d.stopped
          (waiting_bytes a.buffer) (waiting_bytes b.buffer) (waiting_bytes d.buffer)
          (g.P.Padded.text c.args.text.now) c.args.words.now first c.send-then-not-add_padded_then.ensures.sent,
    )
