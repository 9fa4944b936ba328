use Rattle.std.proofs.Common.{[], ◌∷◌, codes, refl}
use Rattle.graphql_text.specs.layout.Layout.{Space, Word}
use Rattle.graphql_text.specs.lexical.Tokens.{Name}
use Rattle.graphql_text.proofs.code.WritingSteps.{writes_then}
use Rattle.graphql_executable.proofs.fragment_definition.print.FragmentDefinitionWrittenExecutableStacks.write_at.Goals as goal

pub returns-clause-written : goal.returns-clause-written
returns-clause-written g c =
    let more = g.met.O.Target.more in
    let description = rw c.as_ref.ensures.value at c.write_leading_description.ensures in
    let name = writes_then more {xs = Word (Name (codes "fragment")) ∷ Space ∷ []} (c.write_words.ensures.items _ _ _ refl) (c.write_name.ensures _ _) in
    let condition =
    writes_then more {xs = Space ∷ Word (Name (codes "on")) ∷ Space ∷ []} (c.write_words-2.ensures.items _ _ _ refl)
    (c.write_name-2.ensures _ _) in
    let set = rw c.deref.ensures.value at c.write_selection_set.ensures.written in
    let spaced = writes_then more {xs = Space ∷ []} (c.write_words-3.ensures.items _ _ _ refl) set in
    writes_then more description (writes_then more name (writes_then more condition (writes_then more c.write_at.ensures.written spaced)))
