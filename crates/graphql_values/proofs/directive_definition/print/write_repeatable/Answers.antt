use Rattle.std.proofs.Common.{[], ◌∷◌, refl, codes}
use Rattle.graphql_text.specs.layout.Layout.{Space, Word}
use Rattle.graphql_text.specs.lexical.Tokens.{Name}
use Rattle.graphql_text.proofs.code.WritingSteps.{writes_nothing}
use Rattle.graphql_values.proofs.directive_definition.print.write_repeatable.Goals as goal

pub returns-then-is_repeatable : goal.returns-then-is_repeatable
returns-then-is_repeatable g c =
    λ mode level. rw c.if-is_repeatable.true (c.write_words.ensures.items mode level (Space ∷ Word (Name (codes "repeatable")) ∷ []) refl)

pub returns-else-is_repeatable : goal.returns-else-is_repeatable
returns-else-is_repeatable g c = λ mode level. rw c.if-is_repeatable.false (writes_nothing g.met.O.Target.nothing)
