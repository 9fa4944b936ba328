use Rattle.std.proofs.Common.{refl}
use Rattle.graphql_executable.specs.kinds.Selections.{selection_flaws, selections_flaws}
use Rattle.graphql_executable.specs.trees.ExecutableTrees.{selection_tree, selection_trees}
use Rattle.graphql_flaws.specs.FoundFlaws.{found_by}
use Rattle.graphql_flaws.proofs.PartsFound.{found_on}
use Rattle.graphql_flaws.proofs.executable.+selections.Goals as goal

pub push_selections-loop-index-preserved : goal.push_selections-loop-index-preserved
push_selections-loop-index-preserved t c =
    found_on (λ selection. selection_flaws (selection_tree selection)) (λ selections. selections_flaws (selection_trees selections)) refl
    (λ part more. refl) c.args.selections.now c.loop-index.index c.index-selections-index.result (found_by c.args.search.now)
    (found_by c.loop-index.search) _ _ _ c.loop-index-test.true c.index-selections-index.is c.loop-index.invariant c.enter.ensures
    c.in_ok-push_selection.ensures c.leave.ensures
