use Rattle.graphql_text.proofs.code.WritingSteps.{writes_then}
use Rattle.graphql_type_system.proofs.enum_value_definition.print.EnumValueDefinitionWrittenStacks.write_at.Goals as goal

pub returns-clause-written : goal.returns-clause-written
returns-clause-written g c =
    let more = g.met.O.Target.more in
    let description = rw c.as_ref.ensures.value at c.write_leading_description.ensures in
    writes_then more description (writes_then more (c.write_name.ensures _ _) c.write_at.ensures.written)
