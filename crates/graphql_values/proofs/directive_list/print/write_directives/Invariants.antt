use Rattle.std.proofs.Common.{◌≤◌, drop}
use Rattle.graphql_text.specs.code.Place.{mode_of}
use Rattle.graphql_text.specs.code.Stack.{IsKept}
use Rattle.graphql_text.specs.code.Writing.{WritesBeginning}
use Rattle.graphql_values.specs.kinds.Directives.{directives_nesting, directives_shape}
use Rattle.graphql_values.specs.trees.DirectiveTrees.{directive_node_trees}
use Rattle.graphql_values.proofs.directive_list.print.write_directives.Given as goal

abbrev pub invariant-loop-directive : goal.invariant-loop-directive
invariant-loop-directive g l = record {
  nesting : directives_nesting (directive_node_trees (drop l.directive-index l.directives)) ≤ directives_nesting (directive_node_trees l.directives);
  kept : IsKept l.fn.stack l.stack;
  written : WritesBeginning g.O.Target.wrote l.fn.out l.out (mode_of l.place.prefix) l.place.level
      (directives_shape (directive_node_trees l.directives)) l.place.level
      (directives_shape (directive_node_trees (drop l.directive-index l.directives)));
}
