use Rattle.std.proofs.Common.{[], ◌∷◌, arith, le_refl, refl}
use Rattle.graphql_text.specs.layout.Layout.{Space}
use Rattle.graphql_text.proofs.code.PendingStackSteps.{opens_after}
use Rattle.graphql_executable.specs.trees.ExecutableTrees.{inline_fragment_tree}
use Rattle.graphql_executable.specs.kinds.InlineFragments.{selection_of_inline_fragment}
use Rattle.graphql_executable.specs.kinds.Selections.{selection_nesting, selection_set_nesting, selection_shape}
use Rattle.graphql_executable.proofs.layout.SelectionShapes.{inline_selections_are}
use Rattle.graphql_executable.proofs.selection.print.open_inline_fragment.Goals as goal

pub returns-clause-opened : goal.returns-clause-opened
unfolding selection_shape
returns-clause-opened g c =
    let nothing = g.met.O.Target.nothing in
    let more = g.met.O.Target.more in
    let tree = inline_fragment_tree c.args.fragment.now in
    let set = rw c.deref.ensures.value at c.open_set.ensures.opened in
    let spaced = opens_after nothing more (le_refl _) (c.write_words.ensures.items _ _ (Space ∷ []) refl) set in
    opens_after nothing more {n = selection_nesting (selection_of_inline_fragment tree)} {n' = selection_set_nesting tree.selections} (omega arith)
    c.write_inline_fragment_head.ensures.written (rw (inline_selections_are c.args.fragment.now) spaced)
