use Rattle.graphql_base.proofs.SpanEquality.{errors}
use Rattle.graphql_base.proofs.laws.name_errors_compare_by_fields.Goals as goal

pub returns : goal.returns
returns c = errors c.args.a.now c.args.b.now
