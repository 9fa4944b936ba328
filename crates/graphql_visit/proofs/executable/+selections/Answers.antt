use Rattle.std.proofs.Common.{rules}
use Rattle.graphql_executable.specs.trees.ExecutableTrees.{selection_tree}
use Rattle.graphql_visit.specs.kinds.Executable.{selection_visited}
use Rattle.graphql_visit.proofs.Steps.{loop_on, walked_through}
use Rattle.graphql_visit.proofs.executable.+selections.Goals as goal

pub walk_selections-loop-selection-preserved : goal.walk_selections-loop-selection-preserved
walk_selections-loop-selection-preserved g t c answer end left =
    c.loop-selection.invariant answer end
    (loop_on g.V.Visitor.enters g.V.Visitor.leaves selection_visited selection_tree c.args.selections.now c.loop-selection.selection-index
    c.selection-item.result c.loop-selection.visitor c.walk_selection.new.visitor c.walk_selection.result _ c.loop-selection-test.true
    c.selection-item.is c.walk_selection.ensures c.in_ok-walk_selection.was answer end left)

pub walk_selection-returns : goal.walk_selection-returns
walk_selection-returns g t c =
    walked_through g.V.Visitor.enters g.V.Visitor.leaves _ _ _ c.args.visitor.now c.enter.new.visitor c.walk_within_selection.new.visitor
    c.leave.new.visitor c.enter.result c.walk_within_selection.result c.leave.result _ c.selection_ref-node.ensures c.enter.ensures (search rules)
    c.walk_within_selection.ensures c.in_ok-walk_within_selection.was c.leave.ensures
