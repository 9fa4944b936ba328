use Rattle.std.proofs.Common.{refl}
use Rattle.graphql_text.proofs.code.WritingSteps.{writes_nothing}
use Rattle.graphql_text.proofs.writers.write_last_comma.Goals as goal

pub returns-in-Some : goal.returns-in-Some
returns-in-Some g c = rw c.in-Some.is (c.write_words.ensures.items _ _ _ refl)

pub returns-in-None : goal.returns-in-None
returns-in-None g c = rw c.in-None.is (writes_nothing g.met.O.Target.nothing)
