use Rattle.std.proofs.Common.{sym}
use Rattle.graphql_text.specs.layout.Layout.{is_broken, is_front}
use Rattle.graphql_text.specs.code.Place.{mode_of}
use Rattle.graphql_executable.specs.trees.ExecutableTrees.{operation_definition_tree}
use Rattle.graphql_executable.proofs.layout.OperationShapes.{shape_in_full, shape_in_shorthand}
use Rattle.graphql_executable.proofs.operation_definition.print.write_first_operation_definition.Goals as goal

pub returns-then-is_in_shorthand-clause-written : goal.returns-then-is_in_shorthand-clause-written
returns-then-is_in_shorthand-clause-written g c =
    let mode = mode_of c.args.place.now.prefix in
    let set = rw c.deref.ensures.value at c.write_selection_set.ensures.written in
    rw (shape_in_shorthand (is_broken mode) (is_front mode c.args.place.now.level) (operation_definition_tree c.args.operation.now)
    (sym c.if-is_in_shorthand.ensures)) set

pub returns-else-is_in_shorthand-clause-written : goal.returns-else-is_in_shorthand-clause-written
returns-else-is_in_shorthand-clause-written g c =
    let mode = mode_of c.args.place.now.prefix in
    rw (shape_in_full (is_broken mode) (is_front mode c.args.place.now.level) (operation_definition_tree c.args.operation.now)
    (sym c.if-is_in_shorthand.ensures))
    c.write_at.ensures.written
