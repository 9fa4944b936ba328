use Rattle.std.proofs.Common.{[], ◌∷◌, refl, None}
use Rattle.graphql_text.specs.layout.Layout.{Space, Word}
use Rattle.graphql_text.specs.lexical.Tokens.{colon, Punctuation}
use Rattle.graphql_text.proofs.code.WritingSteps.{writes_then}
use Rattle.graphql_values.proofs.argument.print.write_argument.Goals as goal

pub returns-clause-written : goal.returns-clause-written
returns-clause-written g c =
    let more = g.met.O.Target.more in
    let value = rw (c.requires.flat, c.deref.ensures) at c.write_value.ensures.written in
    writes_then more (c.write_name_then.ensures (Word (Punctuation colon) ∷ Space ∷ []) refl None c.args.place.now.level) value
