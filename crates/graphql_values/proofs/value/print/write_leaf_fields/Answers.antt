use Rattle.std.proofs.Common.{refl}
use Rattle.graphql_text.proofs.code.WritingSteps.{beginning_none, beginning_then}
use Rattle.graphql_values.proofs.value.print.write_leaf_fields.Goals as goal

pub returns-in-Some-clause-written : goal.returns-in-Some-clause-written
returns-in-Some-clause-written g c = beginning_then g.met.O.Target.more c.in-Some.ensures.written refl c.write_further_fields.ensures.written

pub returns-in-None-clause-written : goal.returns-in-None-clause-written
returns-in-None-clause-written g c = rw c.in-None.ensures.untouched (beginning_none g.met.O.Target.nothing)
