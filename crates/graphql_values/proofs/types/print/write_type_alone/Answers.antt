use Rattle.std.proofs.Common.{None}
use Rattle.graphql_values.proofs.types.print.write_type_alone.Goals as goal

pub returns-clause-ok : goal.returns-clause-ok
returns-clause-ok g c = let written = c.write_type.ensures.written None 0 in written.text
