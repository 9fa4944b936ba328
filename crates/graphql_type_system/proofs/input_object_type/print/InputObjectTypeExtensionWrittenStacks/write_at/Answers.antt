use Rattle.std.proofs.Common.{[], ◌∷◌, codes, refl}
use Rattle.graphql_text.specs.layout.Layout.{Space, Word}
use Rattle.graphql_text.specs.lexical.Tokens.{Name}
use Rattle.graphql_text.proofs.code.WritingSteps.{writes_then}
use Rattle.graphql_type_system.specs.kinds.BracedTypes.{braced_type_shape}
use Rattle.graphql_type_system.proofs.input_object_type.print.InputObjectTypeExtensionWrittenStacks.write_at.Goals as goal

pub returns-clause-written : goal.returns-clause-written
unfolding braced_type_shape
returns-clause-written g c =
    let more = g.met.O.Target.more in
    let keyword = c.write_words.ensures.items _ _ (Word (Name (codes "extend")) ∷ Space ∷ Word (Name (codes "input")) ∷ Space ∷ []) refl in
    let members = rw c.deref.ensures.value at c.write_directives_and_members.ensures.written in
    writes_then more keyword (writes_then more (c.write_name.ensures _ _) members)
