use Rattle.std.proofs.Common.{rules}
use Rattle.graphql_visit.proofs.Steps.{walked_through}
use Rattle.graphql_visit.proofs.walked.walk.Goals as goal

pub returns : goal.returns
returns g c =
    walked_through g.V.Visitor.enters g.V.Visitor.leaves _ _ _ c.args.visitor.now c.enter.new.visitor c.walk_within.new.visitor c.leave.new.visitor
    c.enter.result c.walk_within.result c.leave.result _ c.node_ref-node.ensures c.enter.ensures (search rules) c.walk_within.ensures
    (search rules) c.leave.ensures
