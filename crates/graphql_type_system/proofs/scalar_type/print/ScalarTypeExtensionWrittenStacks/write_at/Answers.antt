use Rattle.std.proofs.Common.{[], ◌∷◌, codes, refl}
use Rattle.graphql_text.specs.layout.Layout.{Space, Word}
use Rattle.graphql_text.specs.lexical.Tokens.{Name}
use Rattle.graphql_text.proofs.code.WritingSteps.{writes_then}
use Rattle.graphql_type_system.proofs.scalar_type.print.ScalarTypeExtensionWrittenStacks.write_at.Goals as goal

pub returns-clause-written : goal.returns-clause-written
returns-clause-written g c =
    let more = g.met.O.Target.more in
    let keyword = c.write_words.ensures.items _ _ (Word (Name (codes "extend")) ∷ Space ∷ Word (Name (codes "scalar")) ∷ Space ∷ []) refl in
    writes_then more keyword (writes_then more (c.write_name.ensures _ _) c.write_at.ensures.written)
