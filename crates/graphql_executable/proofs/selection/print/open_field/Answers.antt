use Rattle.std.proofs.Common.{arith}
use Rattle.graphql_text.proofs.code.PendingStackSteps.{opens_after}
use Rattle.graphql_executable.specs.trees.ExecutableTrees.{field_tree}
use Rattle.graphql_executable.specs.kinds.Fields.{selection_of_field}
use Rattle.graphql_executable.specs.kinds.Selections.{selection_nesting, selection_set_nesting, selection_shape}
use Rattle.graphql_executable.proofs.layout.SelectionShapes.{field_selections_are}
use Rattle.graphql_executable.proofs.selection.print.open_field.Goals as goal

pub returns-clause-opened : goal.returns-clause-opened
unfolding selection_shape
returns-clause-opened g c =
    let tree = field_tree c.args.field.now in
    let set = rw c.deref.ensures.value at c.open_optional_set.ensures.opened in
    opens_after g.met.O.Target.nothing g.met.O.Target.more {n = selection_nesting (selection_of_field tree)}
    {n' = selection_set_nesting tree.selections} (omega arith)
    c.write_field_head.ensures.written (rw (field_selections_are c.args.field.now) set)
