use Rattle.std.proofs.Common.{◌≡◌, ◌+◌, ◌≤◌, length}
use Rattle.graphql_text.specs.layout.Layout.{is_broken}
use Rattle.graphql_text.specs.code.Place.{mode_of}
use Rattle.graphql_text.specs.code.Stack.{stack_entries, stack_room}
use Rattle.graphql_text.specs.code.Writing.{WritesBeginning}
use Rattle.graphql_values.specs.kinds.Values.{value_shape, value_nesting}
use Rattle.graphql_values.specs.trees.ValueTrees.{value_tree}
use Rattle.graphql_values.specs.code.ValueWalk.{stack_items, stack_need}
use Rattle.graphql_values.proofs.value.print.ValueWrittenStackValueEntry.write_at.Given as goal

abbrev pub invariant-loop-entry : goal.invariant-loop-entry
invariant-loop-entry g l = record {
  prefix : l.here.prefix ≡ l.place.prefix;
  level : l.here.level ≡ l.place.level + length (stack_entries l.stack);
  need : stack_need (stack_entries l.stack) ≤ value_nesting (value_tree l.self);
  room : stack_room l.fn.stack ≤ stack_room l.stack;
  written : WritesBeginning g.O.Target.wrote l.fn.out l.out (mode_of l.place.prefix) l.place.level
      (value_shape (is_broken (mode_of l.place.prefix)) (value_tree l.self)) l.here.level
      (stack_items (is_broken (mode_of l.place.prefix)) (stack_entries l.stack));
}

abbrev pub decreases-loop-entry : goal.decreases-loop-entry
decreases-loop-entry g l = length (stack_items (is_broken (mode_of l.place.prefix)) (stack_entries l.stack))
