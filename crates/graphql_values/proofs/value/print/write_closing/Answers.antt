use Rattle.std.proofs.Common.{◌∷◌, append_assoc, arith}
use Rattle.graphql_text.specs.layout.Layout.{Tight, is_broken}
use Rattle.graphql_text.specs.code.Place.{mode_of}
use Rattle.graphql_text.proofs.code.CommaGroupEnd.{levels_end}
use Rattle.graphql_text.proofs.code.WritingSteps.{writes_then}
use Rattle.graphql_values.proofs.value.print.write_closing.Goals as goal

pub returns-clause-written : goal.returns-clause-written
returns-clause-written g c = λ items is.
    let broken = is_broken (mode_of c.args.here.now.prefix) in
    let closed = rw append_assoc at (writes_then g.met.O.Target.more c.write_comma_end.ensures (c.write_words.ensures.items _ _ items is)) in
    levels_end broken (Tight ∷ items) (omega (arith, c.requires)) closed
