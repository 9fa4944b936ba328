use Rattle.std.proofs.Common.{[], ◌∷◌, refl}
use Rattle.graphql_text.specs.layout.Layout.{Word}
use Rattle.graphql_text.specs.lexical.Tokens.{spread, Punctuation}
use Rattle.graphql_text.proofs.code.WritingSteps.{writes_then}
use Rattle.graphql_executable.specs.kinds.SelectionHeads.{inline_fragment_head_shape}
use Rattle.graphql_executable.proofs.layout.SelectionShapes.{inline_fragment_head_is}
use Rattle.graphql_executable.proofs.inline_fragment.print.write_inline_fragment_head.Goals as goal

pub returns-clause-written : goal.returns-clause-written
unfolding inline_fragment_head_shape
returns-clause-written g c =
    let more = g.met.O.Target.more in
    let condition = rw c.as_ref.ensures.value at c.write_type_condition.ensures _ _ in
    rw (inline_fragment_head_is c.args.fragment.now)
    (writes_then more {xs = Word (Punctuation spread) ∷ []} (c.write_words.ensures.items _ _ _ refl)
    (writes_then more condition c.write_optional_directives.ensures.written))
