use Rattle.std.proofs.Common.{ℕ, ◌≤◌, length, List, Option}
use Rattle.graphql_text.specs.code.Stack.{stack_entries, stack_room}
use Rattle.graphql_text.specs.code.Writing.{WritesItems}
use Rattle.graphql_values.specs.code.TypeEnds.{ends_items}
use Rattle.graphql_values.proofs.types.print.write_ends.Given as goal

-- whoever writes the ends that are left has written them all
abbrev pub invariant-loop-end : goal.invariant-loop-end
invariant-loop-end g l = record {
  room : stack_room l.fn.stack ≤ stack_room l.stack;
  written : (after : g.row.O.Denot) (mode : Option (List ℕ)) (level : ℕ) →
      WritesItems g.O.Target.wrote l.out after mode level (ends_items (stack_entries l.stack)) →
      WritesItems g.O.Target.wrote l.fn.out after mode level (ends_items (stack_entries l.fn.stack));
}

abbrev pub decreases-loop-end : goal.decreases-loop-end
decreases-loop-end g l = length (stack_entries l.stack)
