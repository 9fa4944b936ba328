use Rattle.std.proofs.Math.Utf8.{encode}
use Rattle.graphql_text.proofs.code.CommaAndMark.{writes_comma_soft}
use Rattle.graphql_text.proofs.writers.write_comma_lead.Goals as goal

pub returns-then-is_first : goal.returns-then-is_first
returns-then-is_first g c = rw c.if-is_first.true c.write_tight.ensures

pub returns-in-Some-ready : goal.returns-in-Some-ready
unfolding encode
returns-in-Some-ready g c =
    let lead = rw c.in-Some-ready.is at c.requires in
    let written = rw lead at c.padded.ensures in
    rw c.if-is_first.false (writes_comma_soft written)

pub returns-in-None-ready : goal.returns-in-None-ready
unfolding encode
returns-in-None-ready g c = rw (c.if-is_first.false, c.in-Some.is) (writes_comma_soft c.comma_break.ensures)

pub returns-in-None : goal.returns-in-None
unfolding encode
returns-in-None g c = rw (c.if-is_first.false, c.in-None.is) (writes_comma_soft c.text.ensures)
