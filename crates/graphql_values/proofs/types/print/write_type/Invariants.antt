use Rattle.std.proofs.Common.{ℕ, ◌+◌, ◌≤◌, ◌++◌, length, List, Option}
use Rattle.graphql_text.specs.code.Stack.{stack_entries, stack_room}
use Rattle.graphql_text.specs.code.Writing.{WritesItems}
use Rattle.graphql_values.specs.code.TypeEnds.{ends_items}
use Rattle.graphql_values.specs.kinds.TypeReferences.{list_depth, type_shape}
use Rattle.graphql_values.specs.trees.TypeTrees.{type_tree}
use Rattle.graphql_values.proofs.types.print.write_type.Given as goal

-- whoever writes what is inside and then the ends has written the type
abbrev pub invariant-loop-inner : goal.invariant-loop-inner
invariant-loop-inner g l = record {
  need : length (stack_entries l.stack) + list_depth (type_tree l.inner) ≤ stack_room l.stack;
  room : stack_room l.fn.stack ≤ stack_room l.stack;
  written : (after : g.row.O.Denot) (mode : Option (List ℕ)) (level : ℕ) →
      WritesItems g.O.Target.wrote l.out after mode level (type_shape (type_tree l.inner) ++ ends_items (stack_entries l.stack)) →
      WritesItems g.O.Target.wrote l.fn.out after mode level (type_shape (type_tree l.ty));
}

abbrev pub decreases-loop-inner : goal.decreases-loop-inner
decreases-loop-inner g l = list_depth (type_tree l.inner)
