use Rattle.std.proofs.Common.{◌≤◌, length}
use Rattle.graphql_text.specs.code.Groups.{curly_rest}
use Rattle.graphql_text.specs.code.Place.{mode_of}
use Rattle.graphql_text.specs.code.Stack.{IsKept}
use Rattle.graphql_text.specs.code.Writing.{WritesBeginning}
use Rattle.graphql_executable.specs.trees.ExecutableTrees.{selection_trees}
use Rattle.graphql_executable.specs.kinds.Selections.{selection_set_nesting, selections_shapes}
use Rattle.graphql_executable.proofs.selection.print.write_leaves.Given as goal

abbrev pub invariant-loop-selection : goal.invariant-loop-selection
invariant-loop-selection g l =
    let all = selection_trees l.selections in
    let rest = selection_trees l.rest in
    record {
      nesting : selection_set_nesting rest ≤ selection_set_nesting all;
      kept : IsKept l.fn.stack l.stack;
      written : WritesBeginning g.O.Target.wrote l.fn.out l.out (mode_of l.place.prefix) l.place.level
          (curly_rest (selections_shapes all)) l.place.level (curly_rest (selections_shapes rest));
    }

abbrev pub decreases-loop-selection : goal.decreases-loop-selection
decreases-loop-selection g l = length l.rest
