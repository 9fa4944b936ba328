use Rattle.std.proofs.Common.{[], ◌∷◌, refl}
use Rattle.graphql_text.specs.layout.Layout.{Space, Word}
use Rattle.graphql_text.specs.lexical.Tokens.{colon, Punctuation}
use Rattle.graphql_text.proofs.code.WritingSteps.{writes_nothing}
use Rattle.graphql_executable.proofs.field.print.write_alias.Goals as goal

pub returns-in-Some : goal.returns-in-Some
returns-in-Some g c = λ mode level.
    rw c.in-Some.is (c.write_name_then.ensures (Word (Punctuation colon) ∷ Space ∷ []) refl mode level)

pub returns-in_default : goal.returns-in_default
returns-in_default g c = λ mode level. rw c.in_default.is (writes_nothing g.met.O.Target.nothing)
