use Rattle.graphql_text.specs.trees.Leaves.{name_trees}
use Rattle.graphql_operations.proofs.Reached.{AreKeptUpTo}
use Rattle.graphql_operations.proofs.fragments.with_fragments.Given as goal

abbrev pub invariant-loop-definition : goal.invariant-loop-definition
invariant-loop-definition l =
    AreKeptUpTo (name_trees l.names) l.definitions l.fn.found.items l.definition-index l.all.items
