use Rattle.std.proofs.Common.{[], ◌∷◌, refl}
use Rattle.graphql_text.specs.layout.Layout.{Space, Word}
use Rattle.graphql_text.specs.lexical.Tokens.{colon, Punctuation}
use Rattle.graphql_values.specs.kinds.ArgumentsDefinitions.{wants_lines}
use Rattle.graphql_text.proofs.code.WritingSteps.{writes_then}
use Rattle.graphql_type_system.proofs.field_definition.print.FieldDefinitionWrittenStacks.write_at.Goals as goal

pub returns-clause-written : goal.returns-clause-written
returns-clause-written g c =
    let more = g.met.O.Target.more in
    let description = rw c.as_ref.ensures.value at c.write_leading_description.ensures in
    let wants = rw c.deref-2.ensures.value at c.some_want_lines.ensures in
    let parameters = rw c.deref.ensures.value at c.write_parameters.ensures.written in
    let arguments = parameters wants_lines wants in
    let colon_and_space = c.write_words.ensures.items _ _ (Word (Punctuation colon) ∷ Space ∷ []) refl in
    let type = c.write_type.ensures.written _ _ in
    writes_then more description (writes_then more (c.write_name.ensures _ _)
    (writes_then more arguments (writes_then more colon_and_space (writes_then more type c.write_at.ensures.written))))
