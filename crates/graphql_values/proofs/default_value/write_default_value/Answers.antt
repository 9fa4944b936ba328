use Rattle.std.proofs.Common.{[], ◌∷◌, refl}
use Rattle.graphql_text.specs.layout.Layout.{Space, Word}
use Rattle.graphql_text.specs.lexical.Tokens.{equals, Punctuation}
use Rattle.graphql_text.proofs.code.WritingSteps.{writes_nothing, writes_then}
use Rattle.graphql_values.proofs.default_value.write_default_value.Goals as goal

pub returns-in-Some-clause-written : goal.returns-in-Some-clause-written
returns-in-Some-clause-written g c =
    let value = rw c.deref.ensures at c.write_value.ensures.written in
    rw c.in-Some.is (writes_then g.met.O.Target.more {xs = Space ∷ Word (Punctuation equals) ∷ Space ∷ []} (c.write_words.ensures.items _ _ _ refl) value)

pub returns-in_default-clause-written : goal.returns-in_default-clause-written
returns-in_default-clause-written g c = rw c.in_default.is (writes_nothing g.met.O.Target.nothing)
