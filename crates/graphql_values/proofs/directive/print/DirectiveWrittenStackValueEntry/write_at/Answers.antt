use Rattle.std.proofs.Common.{[], ◌∷◌, refl}
use Rattle.graphql_base.specs.Name.{name_text}
use Rattle.graphql_text.specs.layout.Layout.{Word}
use Rattle.graphql_text.specs.lexical.Tokens.{at, Punctuation, Name}
use Rattle.graphql_text.proofs.code.WritingSteps.{writes_then}
use Rattle.graphql_values.specs.kinds.Directives.{directive_shape}
use Rattle.graphql_values.proofs.directive.print.DirectiveWrittenStackValueEntry.write_at.Goals as goal

pub returns-clause-written : goal.returns-clause-written
unfolding directive_shape
returns-clause-written g c =
    let more = g.met.O.Target.more in
    let arguments = rw c.deref.ensures.value at c.write_arguments.ensures.written in
    writes_then more {xs = Word (Punctuation at) ∷ []} (c.write_words.ensures.items _ _ _ refl)
    (writes_then more {xs = Word (Name (name_text c.args.self.now.name)) ∷ []} (c.write_name.ensures _ _) arguments)
