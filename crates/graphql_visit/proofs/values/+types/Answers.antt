use Rattle.graphql_visit.proofs.WithinTypes.{named_walked}
use Rattle.graphql_visit.proofs.values.+types.Goals as goal

pub walk_within_type-returns-in_default : goal.walk_within_type-returns-in_default
walk_within_type-returns-in_default g t c =
    named_walked g.V.Visitor.enters g.V.Visitor.leaves c.args.ty.now c.args.visitor.now c.in_default.not-List c.in_default.not-NonNullList
