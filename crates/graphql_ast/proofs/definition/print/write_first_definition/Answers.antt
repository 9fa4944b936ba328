use Rattle.graphql_text.specs.layout.Layout.{is_broken, is_front}
use Rattle.graphql_text.specs.code.Place.{mode_of}
use Rattle.graphql_ast.proofs.DefinitionFacts.{same_behind}
use Rattle.graphql_ast.proofs.definition.print.write_first_definition.Goals as goal

pub write_first_operation_definition-requires : goal.write_first_operation_definition-requires
write_first_operation_definition-requires g c =
    let ready = rw c.in-OperationDefinition.is at c.requires in
    rw c.deref.ensures (record { definition = ready.definition; selections = ready.selections })

pub returns-in-OperationDefinition-clause-written : goal.returns-in-OperationDefinition-clause-written
returns-in-OperationDefinition-clause-written g c = rw c.in-OperationDefinition.is (rw c.deref.ensures at c.write_first_operation_definition.ensures.written)

pub returns-in_default-clause-written : goal.returns-in_default-clause-written
returns-in_default-clause-written g c =
    let mode = mode_of c.args.place.now.prefix in
    rw (same_behind (is_broken mode) (is_front mode c.args.place.now.level) c.args.definition.now c.in_default.not-OperationDefinition)
    c.write_definition.ensures.written
