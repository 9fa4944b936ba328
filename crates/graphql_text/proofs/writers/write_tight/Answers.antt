use Rattle.std.proofs.Common.{refl}
use Rattle.graphql_text.proofs.code.WritingSteps.{writes_item}
use Rattle.graphql_text.proofs.writers.write_tight.Goals as goal

pub returns-in-Some : goal.returns-in-Some
returns-in-Some g c = rw c.in-Some.is (writes_item refl c.line_break.ensures)

pub returns-in-None : goal.returns-in-None
returns-in-None g c = rw c.in-None.is (writes_item refl (g.met.O.Target.nothing _))
