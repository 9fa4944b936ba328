use Rattle.std.proofs.Common.{◌≤◌, length}
use Rattle.graphql_text.specs.code.Groups.{comma_rest}
use Rattle.graphql_text.specs.layout.Layout.{is_broken}
use Rattle.graphql_text.specs.code.Place.{mode_of}
use Rattle.graphql_text.specs.lexical.Tokens.{rbracket}
use Rattle.graphql_text.specs.code.Writing.{WritesBeginning}
use Rattle.graphql_values.specs.kinds.Values.{values_shapes, values_nesting}
use Rattle.graphql_values.specs.trees.ValueTrees.{value_trees}
use Rattle.graphql_values.proofs.value.print.write_items.Given as goal

abbrev pub invariant-loop-item : goal.invariant-loop-item
invariant-loop-item g l = let b = is_broken (mode_of l.fn.here.prefix) in record {
  nesting : values_nesting (value_trees l.rest) ≤ values_nesting (value_trees l.items);
  written : WritesBeginning g.O.Target.wrote l.fn.out l.out (mode_of l.fn.here.prefix) l.fn.here.level
      (comma_rest rbracket b l.is_first (values_shapes b (value_trees l.items))) l.fn.here.level
      (comma_rest rbracket b l.first (values_shapes b (value_trees l.rest)));
}

abbrev pub decreases-loop-item : goal.decreases-loop-item
decreases-loop-item g l = length l.rest
