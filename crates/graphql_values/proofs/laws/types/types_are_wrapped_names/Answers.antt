use Rattle.graphql_values.proofs.kinds.WrappingLaws.{wrapped, some_nullability, same_wrapping}
use Rattle.graphql_values.proofs.laws.types.types_are_wrapped_names.Goals as goal

pub returns-clause-name : goal.returns-clause-name
returns-clause-name c = wrapped c.args.ty.now

pub returns-clause-some : goal.returns-clause-some
returns-clause-some c = some_nullability

pub returns-clause-whole : goal.returns-clause-whole
returns-clause-whole c = same_wrapping
