use Rattle.std.proofs.Common.{refl}
use Rattle.std.proofs.Math.Utf8.{encode}
use Rattle.graphql_text.proofs.code.CommaAndMark.{writes_comma_tight}
use Rattle.graphql_text.proofs.code.WritingSteps.{writes_item}
use Rattle.graphql_text.proofs.writers.write_comma_end.Goals as goal

pub returns-in-Some-ready_comma_break : goal.returns-in-Some-ready_comma_break
unfolding encode
returns-in-Some-ready_comma_break g c =
    let written = rw c.in-Some-ready_comma_break.ensures.text at c.padded.ensures in
    rw c.in-Some.is (writes_comma_tight written)

pub returns-in-None-ready_comma_break : goal.returns-in-None-ready_comma_break
unfolding encode
returns-in-None-ready_comma_break g c = rw c.in-Some.is (writes_comma_tight c.comma_break.ensures)

pub returns-in-None : goal.returns-in-None
returns-in-None g c = rw c.in-None.is (writes_item refl (g.met.O.Target.nothing _))
