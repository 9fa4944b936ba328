use Rattle.graphql_text.proofs.code.WritingSteps.{writes_then}
use Rattle.graphql_type_system.proofs.members.write_directives_and_members.Goals as goal

pub returns-clause-written : goal.returns-clause-written
returns-clause-written g c =
    writes_then g.met.O.Target.more c.write_at.ensures.written c.write_members.ensures.written
