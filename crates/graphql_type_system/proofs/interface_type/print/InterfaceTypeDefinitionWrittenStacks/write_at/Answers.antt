use Rattle.std.proofs.Common.{[], ◌∷◌, codes, refl}
use Rattle.graphql_text.specs.layout.Layout.{Space, Word}
use Rattle.graphql_text.specs.lexical.Tokens.{amp, Name}
use Rattle.graphql_text.proofs.code.WritingSteps.{writes_then}
use Rattle.graphql_type_system.proofs.interface_type.print.InterfaceTypeDefinitionWrittenStacks.write_at.Goals as goal

pub returns-clause-written : goal.returns-clause-written
returns-clause-written g c =
    let more = g.met.O.Target.more in
    let description = rw c.as_ref.ensures.value at c.write_leading_description.ensures in
    let keyword = c.write_words.ensures.items _ _ (Word (Name (codes "interface")) ∷ Space ∷ []) refl in
    let names = rw c.deref.ensures.value at c.write_joined_names.ensures in
    let interfaces = names (Name (codes "implements")) amp refl refl _ _ in
    let members = rw c.deref-2.ensures.value at c.write_directives_and_members.ensures.written in
    writes_then more description (writes_then more keyword (writes_then more (c.write_name.ensures _ _) (writes_then more interfaces members)))
