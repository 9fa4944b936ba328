use Rattle.std.proofs.Common.{Ok, sym, ap, ◌∙◌}
use Rattle.graphql_visit.specs.Walks.{left}
use Rattle.graphql_visit.proofs.visitor.leave.Goals as goal

pub returns-in-Ok-Continue : goal.returns-in-Ok-Continue
returns-in-Ok-Continue g c =
    (c.leave.result, c.leave.ensures, sym (ap left (c.in-Ok-Continue.is ∙ ap Ok c.in-Ok-Continue.field-0-is)))

pub returns-in-Ok-Break : goal.returns-in-Ok-Break
returns-in-Ok-Break g c =
    (c.leave.result, c.leave.ensures, sym (ap left (c.in-Ok-Break.is ∙ ap Ok c.in-Ok-Break.field-0-is)))
