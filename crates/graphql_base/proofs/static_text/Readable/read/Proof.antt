-- `read` gives the bytes for as long as the right lasts, which is for ever. Assumes `Logic`.
use Rattle.std.proofs.Common.{◌≡◌, ◌^◌, ◌*◌, List, [], ◌∷◌, ◌++◌, length, refl, ap, ◌∙◌, arith}
use mir.Syntax.{w64}
use mir.Val.{Val, vptr, vint}
use prog.Wp.{WpFn}
use contract.Monad.{fact}
use contract.Running.{tables}
use types.Kit.{‵, raw, ◌⊛◌, prop, ◌$◌, ◌∵◌, !, qed, move, drop, split, fsplit, fjoin, feq_l, feq_i, flt_l, flt_i, regoal, suffices, done, at_ret}
use types.Part.{agg}
use types.Run.{enter, returns, of_opd, and_then, no_more, first, blocks, exec}
use types.ByLocal.{alloc_all, pass_all, free_all, look_at, get, sets, sets_last, env}
use denote.Builtin.{RefOf, usize}
use denote.Exit.{yes}
use denote.Opens.{unhide, hide}
use denote.RattleType.{owns}
use denote.RawPtr.{RawPtr, block_ptr, block_of, count_of, ptr_val}
use denote.Signature.{plain, types_at}
use denote.Slice.{slice_val}
use denote.Steps.{nothing, heard}
use Rattle.std.proofs.VecSteps.Shapes.{after}
use denote.Triple.Entry.{alive}
use denote.Triple.Walked.{Stays, stay_dropped, walk_of, ends_at, says, Goes-dropped}
use Rattle.std.proofs.raw_atomic.Walks.{proved_at}
use Rattle.graphql_base.specs.contracts.static_text.Readable as readable
use Rattle.graphql_base.specs.contracts.static_text.Readable.read as f
use Rattle.graphql_base.proofs.static_text.Readable.read.Statement.{statement}
use Rattle.graphql_base.proofs.static_text.Readable.read.Code as code

abbrev stayed : Stays f.ended.signature.params f.ended.kept
stayed = (
  stay_dropped (RefOf (0 ∷ []) tt (plain (λ _. readable.the_row)) (λ _. tt)) yes,
  (stay_dropped (plain (λ _. RawPtr)) yes, (stay_dropped (plain (λ _. usize)) yes, tt)),
)

pub read_spec : {M : Type 1} → statement M
read_spec 𝓤 𝓛 𝓜 𝓡 wired =
    let c = f.clauses 𝓛 𝓜.mem 𝓡.returns in let W = walk_of 𝓛 f.ended stayed c in let 𝓣 = tables 𝓤 𝓛.H 𝓜 𝓡 𝓡.env in
    proved_at 𝓛 f.ended stayed c 𝓜 𝓡 (
      Goes-dropped 𝓛 1 (RefOf (0 ∷ []) tt (plain (λ _. readable.the_row)) (λ _. tt)) yes (λ κs x w. refl),
      (Goes-dropped 𝓛 1 (plain (λ _. RawPtr)) yes (λ κs x w. refl), (Goes-dropped 𝓛 1 (plain (λ _. usize)) yes (λ κs x w. refl), tt)),
    )
    f.Key.name code.function (code.unfolded 𝓤 𝓛.H 𝓜 𝓡 wired) (λ z are.
    let a = z.0.3 in
    let vss = z.0.4 in
    let s = a.0.now in
    let at = a.1.0 in
    let n = a.1.1.0 in
    let b = block_of s.at in
    let o = count_of s.at in
    let Asked = (at ≡ s.at) × (n ≡ length s.bytes) in
    qed 𝓛 ((raw (alive 𝓛 f.signature z.0.0 z.0.1) ⊛ ‵ (owns (types_at f.signature.params z.0.0) a vss)) ∷ raw (fact 𝓤 Asked) ∷ []) ∵
    move ! (1 ∷ []) $ heard ! Asked (λ asked. split ! $ move ! (1 ∷ []) $
    fsplit ! $ fsplit ! $ feq_l ! (λ is_self. unhide ! $ fsplit ! $ drop ! $ move ! (1 ∷ []) $
    fsplit ! $ feq_l ! (λ is_at. fsplit ! $ fsplit ! $ feq_l ! (λ is_len. flt_l ! (λ fits. drop ! $
    -- [the right to read; the tokens]
    let placed : at ≡ block_ptr b o = asked.0 ∙ s.placed.0 in
    let self = vptr a.0.ref_ptr.0 a.0.ref_ptr.1 in
    regoal ! (λ (us : List Val). prop (WpFn 𝓤 𝓛.H 𝓣.C 𝓣.Λ code.function (us ++ (vss.1.0 ++ (vss.1.1.0 ++ []))) (W.post z))) is_self refl $
    regoal ! (λ (us : List Val). prop (WpFn 𝓤 𝓛.H 𝓣.C 𝓣.Λ code.function ((self ∷ []) ++ (us ++ (vss.1.1.0 ++ []))) (W.post z)))
    (is_at ∙ ap (λ p. ptr_val p ∷ []) placed) refl $
    regoal ! (λ (us : List Val). prop (WpFn 𝓤 𝓛.H 𝓣.C 𝓣.Λ code.function ((self ∷ []) ++ ((vptr b o ∷ []) ++ (us ++ []))) (W.post z))) is_len refl $
    enter ! _ _ _ (self ∷ vptr b o ∷ vint w64 n ∷ []) _ $ alloc_all ! (λ l. pass_all ! refl ((tt, tt), ((tt, tt), ((tt, record { fits = fits }), tt))) $
    first ! $ blocks ! $
    sets_last ! (agg ! (and_then ! (get ! refl) (and_then ! (get ! refl) (no_more !)))) refl (tt, (tt, (record { fits = fits }, tt))) $
    exec ! 𝓣.C 𝓣.Λ (env code.Mir.locals l) (after 1 (code.function).body) (at_ret _ (W.post z)) $
    sets ! (of_opd ! (get ! refl)) refl (tt, (tt, (record { fits = fits }, tt))) $
    hide ! $ flt_i ! (length s.bytes * 1) (2 ^ 63) (omega (arith, s.placed.1)) $ flt_i ! (length s.bytes) (2 ^ 64) (omega (arith, s.placed.1)) $ fjoin ! $
    feq_i ! (List Val) (slice_val (b, o) n ∷ []) (slice_val (b, o) (length s.bytes) ∷ []) (ap (λ k. slice_val (b, o) k ∷ []) asked.1) $ fjoin ! $ fjoin ! $
    returns ! (look_at ! 0 refl) $ free_all ! refl $
    suffices ! _ (ends_at 𝓛 f.ended stayed c z (slice_val (b, o) n) (record { ref_ptr = (b, o); now = s.bytes }) (tt, (tt, (tt, tt)))
    (tt, (tt, (tt, tt)))) $
    says ! refl $
    nothing ! $ nothing ! $ fjoin ! $ nothing ! $ fjoin ! $ nothing ! $ fjoin ! $ move ! (2 ∷ 0 ∷ 1 ∷ []) $ done !)))))))
