use Rattle.std.proofs.Common.{[], ◌∷◌, refl}
use Rattle.graphql_text.specs.layout.Layout.{Space, Word}
use Rattle.graphql_text.specs.lexical.Tokens.{colon, dollar, Punctuation}
use Rattle.graphql_text.proofs.code.WritingSteps.{writes_then}
use Rattle.graphql_executable.proofs.variable_definition.print.VariableDefinitionWrittenStacks.write_at.Goals as goal

pub returns-clause-written : goal.returns-clause-written
returns-clause-written g c =
    let more = g.met.O.Target.more in
    let description = rw c.as_ref.ensures.value at c.write_leading_description.ensures in
    let name = c.write_name_then.ensures (Word (Punctuation colon) ∷ Space ∷ []) refl _ _ in
    let dollar = writes_then more {xs = Word (Punctuation dollar) ∷ []} (c.write_words.ensures.items _ _ _ refl) name in
    let type = rw c.deref.ensures at c.write_type.ensures.written _ _ in
    let value = rw c.as_ref-2.ensures.value at c.write_default_value.ensures.written in
    writes_then more description (writes_then more dollar (writes_then more type (writes_then more value c.write_optional_directives.ensures.written)))
