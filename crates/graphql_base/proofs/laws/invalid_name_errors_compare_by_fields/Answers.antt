use Rattle.graphql_base.proofs.SpanEquality.{invalids}
use Rattle.graphql_base.proofs.laws.invalid_name_errors_compare_by_fields.Goals as goal

pub returns : goal.returns
returns c = invalids c.args.a.now c.args.b.now
