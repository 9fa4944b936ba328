use Rattle.std.proofs.Common.{◌≢◌, [], ◌∷◌, ◌∙◌, arith, length, refl, sym}
use Rattle.std.proofs.lemmas.Bool.{eq-eqb, eqb-true, false≢true}
use Rattle.graphql_text.specs.layout.Layout.{Space}
use Rattle.graphql_text.specs.code.Stack.{stack_entries}
use Rattle.graphql_text.proofs.code.PendingStackSteps.{opens_after, opens_leaf}
use Rattle.graphql_text.proofs.code.WritingSteps.{writes_nothing}
use Rattle.graphql_executable.specs.kinds.Selections.{selection_shape}
use Rattle.graphql_executable.proofs.code.SelectionWalkSteps.{empty_set, set_is_there}
use Rattle.graphql_executable.proofs.selection.print.open_optional_set.Goals as goal

pub returns-then-is_empty-clause-opened : goal.returns-then-is_empty-clause-opened
unfolding selection_shape
returns-then-is_empty-clause-opened g c =
    let none = empty_set c.args.selections.now (eqb-true _ _ (sym c.if-is_empty.ensures)) in
    rw none (opens_leaf g.met.O.Target.nothing g.met.O.Target.more 0 (stack_entries c.args.stack.now) (writes_nothing g.met.O.Target.nothing))

pub returns-clause-opened : goal.returns-clause-opened
returns-clause-opened g c =
    let some : length c.args.selections.now ≢ 0 = λ none. false≢true (c.if-is_empty.ensures ∙ eq-eqb _ _ none) in
    rw (set_is_there c.args.selections.now some)
    (opens_after g.met.O.Target.nothing g.met.O.Target.more (omega arith) (c.write_words.ensures.items _ _ (Space ∷ []) refl) c.open_set.ensures.opened)
