use Rattle.std.proofs.Common.{◌≢◌, [], ◌∷◌, ◌∙◌, arith, length, refl, sym}
use Rattle.std.proofs.lemmas.Bool.{eq-eqb, eqb-true, false≢true}
use Rattle.graphql_text.specs.layout.Layout.{Word}
use Rattle.graphql_text.specs.code.Stack.{stack_entries}
use Rattle.graphql_text.specs.lexical.Tokens.{lbrace, rbrace, Punctuation}
use Rattle.graphql_text.proofs.code.PendingStackSteps.{opens_leaf}
use Rattle.graphql_executable.specs.kinds.Selections.{selection_shape}
use Rattle.graphql_executable.proofs.code.SelectionWalkSteps.{empty_set, opens_set, set_nests}
use Rattle.graphql_executable.proofs.selection.print.open_set.Goals as goal

pub returns-then-is_empty-clause-opened : goal.returns-then-is_empty-clause-opened
unfolding selection_shape
returns-then-is_empty-clause-opened g c =
    let none = empty_set c.args.selections.now (eqb-true _ _ (sym c.if-is_empty.ensures)) in
    rw none (opens_leaf g.met.O.Target.nothing g.met.O.Target.more 0 (stack_entries c.args.stack.now)
    (c.write_words.ensures.items _ _ (Word (Punctuation lbrace) ∷ Word (Punctuation rbrace) ∷ []) refl))

pub overflow_add-here : goal.overflow_add-here
overflow_add-here g c = omega (arith, c.requires.fits, set_nests c.args.selections.now (λ none. false≢true (c.if-is_empty.ensures ∙ eq-eqb _ _ none)))

pub push-requires : goal.push-requires
push-requires g c = omega (arith, c.requires.room, set_nests c.args.selections.now (λ none. false≢true (c.if-is_empty.ensures ∙ eq-eqb _ _ none)))

pub returns-clause-opened : goal.returns-clause-opened
returns-clause-opened g c =
    let some : length c.args.selections.now ≢ 0 = λ none. false≢true (c.if-is_empty.ensures ∙ eq-eqb _ _ none) in
    opens_set g.met.O.Target.nothing g.met.O.Target.more (record { rest = c.args.selections }) (stack_entries c.args.stack.now)
    (stack_entries c.push.new.self) some c.push.ensures.entries refl
    (c.write_words-2.ensures.items _ _ (Word (Punctuation lbrace) ∷ []) refl)
