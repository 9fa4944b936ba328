use Rattle.std.proofs.Common.{[], ◌∷◌, subst}
use Rattle.graphql_text.specs.lexical.Tokens.{FloatValue}
use Rattle.graphql_text.specs.layout.Layout.{Word}
use Rattle.graphql_text.specs.code.Writing.{WritesAnywhere}
use Rattle.graphql_values.proofs.value.print.write_float_value.Goals as goal

pub returns-in-Some : goal.returns-in-Some
returns-in-Some g c =
    let text = rw c.in-Some.is at c.short_text.ensures.text in
    subst (λ text. WritesAnywhere g.O.Target.wrote c.args.out.now c.write_padded_float.new.out (Word (FloatValue text) ∷ []))
    text c.write_padded_float.ensures

pub returns-in-None : goal.returns-in-None
returns-in-None g c =
    subst (λ text. WritesAnywhere g.O.Target.wrote c.args.out.now c.write_float.new.out (Word (FloatValue text) ∷ []))
    c.as_str.ensures.text c.write_float.ensures
