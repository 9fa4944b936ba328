use Rattle.std.proofs.Common.{[], ◌∷◌, refl, codes}
use Rattle.graphql_text.specs.layout.Layout.{Space, Word}
use Rattle.graphql_text.specs.lexical.Tokens.{Name}
use Rattle.graphql_text.proofs.code.WritingSteps.{writes_nothing, writes_then}
use Rattle.graphql_executable.proofs.inline_fragment.print.write_type_condition.Goals as goal

pub returns-in-Some : goal.returns-in-Some
returns-in-Some g c = λ mode level.
    let on = c.write_words.ensures.items mode level (Space ∷ Word (Name (codes "on")) ∷ Space ∷ []) refl in
    rw c.in-Some.is (writes_then g.met.O.Target.more {xs = Space ∷ Word (Name (codes "on")) ∷ Space ∷ []} on (c.write_name.ensures mode level))

pub returns-in_default : goal.returns-in_default
returns-in_default g c = λ mode level. rw c.in_default.is (writes_nothing g.met.O.Target.nothing)
