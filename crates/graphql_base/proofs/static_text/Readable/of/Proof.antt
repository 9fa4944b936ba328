-- `of` keeps the right that a `&'static` slice holds. Assumes `Logic`.
use Rattle.std.proofs.Common.{List, [], ◌∷◌, ◌++◌, length, refl, arith}
use mir.Val.{Val, vptr}
use prog.Wp.{WpFn}
use contract.Running.{tables}
use types.Kit.{‵, raw, ◌⊛◌, prop, ◌$◌, ◌∵◌, !, qed, move, keep, drop, split, fsplit, fjoin, feq_l, feq_i, flt_l, regoal, suffices, done}
use types.Part.{agg, sub, whole}
use types.Run.{enter, returns, and_then, no_more, fld, stop, addr, from, hop}
use types.ByLocal.{alloc_all, pass_all, free_all, look_at, look_in_at, get, sets}
use denote.Builtin.{u8, SliceRefOf}
use denote.Exit.{yes}
use denote.Opens.{unhide}
use denote.RattleType.{owns}
use denote.RawPtr.{RawPtr, block_ptr}
use denote.Signature.{plain, types_at}
use denote.Slice.{slice_val}
use denote.Steps.{nothing}
use denote.Triple.Entry.{alive}
use denote.Triple.Walked.{Stays, stay_dropped, walk_of, ends_at, says, Goes-dropped}
use Rattle.std.proofs.raw_atomic.Walks.{proved_at}
use Rattle.graphql_base.proofs.OwnedParts.{unit_val, pair_val, makes_unit, makes_pair}
use Rattle.graphql_base.specs.contracts.static_text.Readable as readable
use Rattle.graphql_base.specs.contracts.static_text.Readable.of as f
use Rattle.graphql_base.proofs.static_text.Readable.of.Statement.{statement}
use Rattle.graphql_base.proofs.static_text.Readable.of.Code as code

abbrev stayed : Stays f.ended.signature.params f.ended.kept
stayed = (stay_dropped (SliceRefOf [] tt (plain (λ _. u8)) (λ _. tt)) yes, tt)

pub of_spec : {M : Type 1} → statement M
of_spec 𝓤 𝓛 𝓜 𝓡 wired =
    let c = f.clauses 𝓛 𝓜.mem 𝓡.returns in let W = walk_of 𝓛 f.ended stayed c in let 𝓣 = tables 𝓤 𝓛.H 𝓜 𝓡 𝓡.env in
    proved_at 𝓛 f.ended stayed c 𝓜 𝓡 (Goes-dropped 𝓛 0 (SliceRefOf [] tt (plain (λ _. u8)) (λ _. tt)) yes (λ κs x w. refl), tt)
    f.Key.name code.function (code.unfolded 𝓤 𝓛.H 𝓜 𝓡 wired) (λ z are.
    let a = z.0.3 in
    let b = a.0.ref_ptr.0 in
    let o = a.0.ref_ptr.1 in
    let bytes = a.0.now in
    qed 𝓛 ((raw (alive 𝓛 f.signature z.0.0 z.0.1) ⊛ ‵ (owns (types_at f.signature.params z.0.0) a z.0.4)) ∷ raw ((c z.0.0 a).requires z.1) ∷ []) ∵
    keep ! (0 ∷ []) $ split ! $ move ! (1 ∷ []) $ fsplit ! $ fsplit ! $ fsplit ! $ feq_l ! (λ is. fsplit ! $ flt_l ! (λ count. flt_l ! (λ size.
    -- [the right to read; the end of the parameters; the tokens]
    unhide ! $ move ! (1 ∷ []) $ drop ! $
    let right : (readable.the_row).Denot = record { at = block_ptr b o; bytes = bytes; placed = (refl, omega arith) } in
    regoal ! (λ (us : List Val). prop (WpFn 𝓤 𝓛.H 𝓣.C 𝓣.Λ code.function (us ++ []) (W.post z))) is refl $
    enter ! _ _ _ (slice_val (b, o) (length bytes) ∷ []) _ $ alloc_all ! (λ l. pass_all ! refl ((tt, (tt, (record { fits = count }, tt))), tt) $
    sets ! (addr ! (from ! (fld ! refl (hop ! (look_in_at ! 1 (sub ! 0 refl (whole !))) (stop !))))) refl (tt, tt) $
    sets ! (agg ! (no_more !)) refl (tt, tt) $
    sets ! (agg ! (and_then ! (get ! refl) (and_then ! (get ! refl) (no_more !)))) refl (tt, (tt, (tt, tt))) $
    makes_unit ! $ fjoin ! $ feq_i ! (List Val) (vptr b o ∷ []) (vptr b o ∷ []) refl $
    makes_pair ! RawPtr readable.the_row (block_ptr b o) right (vptr b o) unit_val $
    returns ! (look_at ! 0 refl) $ free_all ! refl $
    suffices ! _ (ends_at 𝓛 f.ended stayed c z (pair_val (vptr b o) unit_val) (block_ptr b o, right) (tt, tt) (tt, tt)) $ says ! (refl, refl) $
    nothing ! $ nothing ! $ fjoin ! $ move ! (2 ∷ 0 ∷ 1 ∷ []) $ done !)))))
