use Rattle.graphql_executable.specs.trees.ExecutableTrees.{fragment_spread_tree}
use Rattle.graphql_executable.specs.kinds.FragmentSpreads.{fragment_spread_nesting}
use Rattle.graphql_text.specs.code.Stack.{stack_entries}
use Rattle.graphql_text.proofs.code.PendingStackSteps.{opens_leaf}
use Rattle.graphql_executable.specs.kinds.Selections.{selection_shape}
use Rattle.graphql_executable.proofs.layout.SelectionShapes.{selection_is_spread}
use Rattle.graphql_executable.proofs.selection.print.open_selection.Goals as goal

pub returns-in-FragmentSpread-clause-opened : goal.returns-in-FragmentSpread-clause-opened
unfolding selection_shape
returns-in-FragmentSpread-clause-opened g c =
    let written = rw c.deref-in-FragmentSpread.ensures at c.write_at.ensures.written in
    rw (c.in-FragmentSpread.is, selection_is_spread c.in-FragmentSpread.spread)
    (opens_leaf g.met.O.Target.nothing g.met.O.Target.more (fragment_spread_nesting (fragment_spread_tree c.in-FragmentSpread.spread.value))
    (stack_entries c.args.stacks.now.selections) written)
