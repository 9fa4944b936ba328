use Rattle.std.proofs.Common.{◌∙◌}
use Rattle.graphql_base.proofs.SpanStretches.{answered}
use Rattle.graphql_base.proofs.location.Location.get.Goals as goal

pub returns : goal.returns
returns c = let new = c.new.ensures in answered _ _ _ c.new.result new.ordered new.file_id new.start new.end ∙ c.self.view_is
