use Rattle.std.proofs.Common.{[], ◌∷◌, refl}
use Rattle.graphql_text.specs.layout.Layout.{Space}
use Rattle.graphql_text.proofs.code.WritingSteps.{writes_nothing, writes_then}
use Rattle.graphql_executable.proofs.operation_definition.print.write_operation_name.Goals as goal

pub returns-in-Some : goal.returns-in-Some
returns-in-Some g c = λ mode level.
    rw c.in-Some.is (writes_then g.met.O.Target.more {xs = Space ∷ []} (c.write_words.ensures.items mode level (Space ∷ []) refl)
    (c.write_name.ensures mode level))

pub returns-in_default : goal.returns-in_default
returns-in_default g c = λ mode level. rw c.in_default.is (writes_nothing g.met.O.Target.nothing)
