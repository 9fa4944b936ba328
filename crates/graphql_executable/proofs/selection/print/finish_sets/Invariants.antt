use Rattle.std.proofs.Common.{◌≡◌, ◌+◌, ◌≤◌, length}
use Rattle.graphql_text.specs.code.Place.{mode_of}
use Rattle.graphql_text.specs.code.Stack.{stack_entries}
use Rattle.graphql_text.specs.code.Writing.{WritesBeginning}
use Rattle.graphql_executable.specs.code.SelectionWalk.{LoseNoRoom, stack_items, stack_need}
use Rattle.graphql_executable.proofs.selection.print.finish_sets.Given as goal

abbrev pub invariant-loop-entry : goal.invariant-loop-entry
invariant-loop-entry g l =
    let before = stack_entries l.fn.stacks.selections in
    let entries = stack_entries l.stacks.selections in
    record {
      prefix : l.here.prefix ≡ l.fn.here.prefix;
      level : l.here.level + length before ≡ l.fn.here.level + length entries;
      need : stack_need entries ≤ stack_need before;
      kept : LoseNoRoom l.fn.stacks l.stacks;
      written : WritesBeginning g.O.Target.wrote l.fn.out l.out (mode_of l.fn.here.prefix) l.fn.here.level (stack_items before) l.here.level
          (stack_items entries);
    }

abbrev pub decreases-loop-entry : goal.decreases-loop-entry
decreases-loop-entry g l = length (stack_items (stack_entries l.stacks.selections))
