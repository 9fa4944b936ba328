-- What a `Readable` owns can be had twice, so a `&` to it holds it as well. Assumes `Logic`.
use Rattle.std.proofs.Common.{ℕ, List, [], ◌∷◌}
use mir.Syntax.{w8}
use base.Logic.{sep, wand, apply∗}
use base.Fml.{Lft, Fml, fbor}
use types.Logic.{sem, lfts}
use types.Kit.{‵, raw, ◌⊛◌, later, ◌$◌, !, qed, move, drop, use1, use2, split, await, updating, now, done}
use denote.Builtin.{u8}
use denote.Plain.{uint_row_laws}
use denote.RawPtr.{Ptr, block_of, count_of}
use denote.Sharing.{ShrLaws, held}
use denote.SharingLaws.{held_shr_laws, contraction}
use denote.Slice.{elements_shared, elements_shr_laws}
use denote.Struct.Lending.{of_Lends}
use Rattle.graphql_base.specs.contracts.static_text.Readable as readable
use Rattle.graphql_base.proofs.static_text.Readable.TheLaw.Statement.{statement}

abbrev shared : Ptr → List ℕ → Lft → Fml
shared at bytes = elements_shared u8 bytes (block_of at) (count_of at)

twice : (at : Ptr) (bytes : List ℕ) → ShrLaws (held [] (shared at bytes))
twice at bytes = held_shr_laws [] (shared at bytes) (elements_shr_laws u8 (uint_row_laws w8) bytes (block_of at) (count_of at))

pub shares : statement
shares =
    of_Lends readable.struct readable.the_codes readable.the_heap readable.the_lent (λ d p. twice d.at d.bytes) tt (λ M 𝓤 𝓛 d p κ ts inc sp.
    let P = readable.the_heap d in
    let closes = 𝓛.H.⇛ (sep 𝓤 (𝓛.A.bor κ P) (lfts 𝓛 ts)) in
    qed 𝓛 (‵ (fbor κ P) ∷ raw (lfts 𝓛 ts) ∷ []) {P = 𝓛.H.⇛ (sep 𝓤 (sem 𝓛 P) (lfts 𝓛 ts))} (updating ! $
    use2 𝓛 (later (‵ P ⊛ raw (wand 𝓤 (sem 𝓛 P) closes))) (𝓛.more.bor_acc_by κ ts P sp) $ await ! tt $ split ! $
    use1 𝓛 (‵ P ⊛ ‵ P) (contraction 𝓛 (held [] (shared d.at d.bytes)) (twice d.at d.bytes) κ) $ split ! $ move ! (0 ∷ 2 ∷ []) $
    use2 𝓛 (later (‵ (fbor κ P) ⊛ raw (lfts 𝓛 ts))) (apply∗ 𝓤 (sem 𝓛 P) closes) $ await ! tt $ split ! $
    drop ! $ move ! (1 ∷ 0 ∷ []) $ now ! $ done !))
