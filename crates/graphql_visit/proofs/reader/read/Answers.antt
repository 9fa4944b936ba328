use Rattle.std.proofs.Common.{Err, ap, ◌∙◌}
use Rattle.graphql_visit.specs.Visits.{one}
use Rattle.graphql_visit.proofs.ReadingWalks.{all_read, read_until, never_stopped}
use Rattle.graphql_visit.proofs.reader.read.Goals as goal

pub returns-in-Ok : goal.returns-in-Ok
returns-in-Ok g c =
    all_read g.R.Reader.reads (one g.T.Walked.visited (g.T.Walked.tree c.args.item.now)) c.args.reader.now c.walk.new.visitor c.walk.result _
    c.walk.ensures c.in-Ok.is

pub returns-in-Err-Failed : goal.returns-in-Err-Failed
returns-in-Err-Failed g c =
    read_until g.R.Reader.reads (one g.T.Walked.visited (g.T.Walked.tree c.args.item.now)) c.args.reader.now c.walk.new.visitor c.walk.result _
    c.walk.ensures (c.in-Err-Failed.is ∙ ap Err c.in-Err-Failed.field-0-is)

pub returns-in-Err-Stopped : goal.returns-in-Err-Stopped
returns-in-Err-Stopped g c =
    absurd (never_stopped g.R.Reader.reads (one g.T.Walked.visited (g.T.Walked.tree c.args.item.now)) c.args.reader.now c.walk.new.visitor c.walk.result
    c.walk.ensures (c.in-Err-Stopped.is ∙ ap Err c.in-Err-Stopped.field-0-is))
