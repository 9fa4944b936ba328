use Rattle.graphql_executable.specs.trees.ExecutableTrees.{selection_tree}
use Rattle.graphql_rewrite.specs.kinds.Executable.{rewritten_selection}
use Rattle.graphql_rewrite.proofs.Lists.{IsMadeUpTo}
use Rattle.graphql_rewrite.proofs.executable.+selections.Given as goal

abbrev pub invariant-rebuild_selections-loop-index : goal.invariant-rebuild_selections-loop-index
invariant-rebuild_selections-loop-index g l =
    IsMadeUpTo selection_tree (rewritten_selection (g.R.Rewriter.rewriting l.rewriter)) l.selections l.index l.made
