use Rattle.std.proofs.Common.{[], ◌∷◌, refl, codes}
use Rattle.graphql_text.specs.layout.Layout.{Space, Word}
use Rattle.graphql_text.specs.lexical.Tokens.{at, Punctuation, Name}
use Rattle.graphql_text.proofs.code.WritingSteps.{writes_then}
use Rattle.graphql_values.specs.kinds.ArgumentsDefinitions.{wants_lines}
use Rattle.graphql_values.proofs.directive_definition.print.DirectiveDefinitionWrittenStacks.write_at.Goals as goal

pub returns-clause-written : goal.returns-clause-written
returns-clause-written g c =
    let more = g.met.O.Target.more in
    let description = rw c.as_ref.ensures.value at c.write_leading_description.ensures in
    let name =
    writes_then more {xs = Word (Name (codes "directive")) ∷ Space ∷ Word (Punctuation at) ∷ []}
    (c.write_words.ensures.items _ _ _ refl) (c.write_name.ensures _ _) in
    let wants = rw c.deref-2.ensures.value at c.some_want_lines.ensures in
    let parameters = rw c.deref.ensures.value at c.write_parameters.ensures.written in
    let arguments = parameters wants_lines wants in
    let locations = rw c.deref-3.ensures.value at c.write_locations.ensures _ _ in
    writes_then more description (writes_then more name (writes_then more arguments (writes_then more (c.write_repeatable.ensures _ _) locations)))
