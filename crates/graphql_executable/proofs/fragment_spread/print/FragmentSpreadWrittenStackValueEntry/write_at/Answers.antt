use Rattle.std.proofs.Common.{[], ◌∷◌, refl}
use Rattle.graphql_base.specs.Name.{name_text}
use Rattle.graphql_text.specs.layout.Layout.{Word}
use Rattle.graphql_text.specs.lexical.Tokens.{spread, Punctuation, Name}
use Rattle.graphql_text.proofs.code.WritingSteps.{writes_then}
use Rattle.graphql_executable.specs.kinds.FragmentSpreads.{fragment_spread_shape}
use Rattle.graphql_executable.proofs.fragment_spread.print.FragmentSpreadWrittenStackValueEntry.write_at.Goals as goal

pub returns-clause-written : goal.returns-clause-written
unfolding fragment_spread_shape
returns-clause-written g c =
    let more = g.met.O.Target.more in
    writes_then more {xs = Word (Punctuation spread) ∷ []} (c.write_words.ensures.items _ _ _ refl)
    (writes_then more {xs = Word (Name (name_text c.args.self.now.fragment_name)) ∷ []}
    (c.write_name.ensures _ _) c.write_optional_directives.ensures.written)
