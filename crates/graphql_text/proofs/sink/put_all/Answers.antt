use Rattle.std.proofs.Common.{◌≡◌, ◌-◌, ◌∙◌, ap, sym, List, ℕ, take, drop, length, ◌++◌, append_assoc, arith, length-drop}
use Rattle.std.proofs.lemmas.List.{take_all, take-append-drop}
use Rattle.graphql_text.specs.lemmas.Sinks.{took_more}
use Rattle.graphql_text.proofs.sink.put_all.Goals as goal

-- taking n more of the rest moves the seam
seam : (done rest : List ℕ) (n : ℕ) → done ++ rest ≡ (done ++ take n rest) ++ take (length rest - n) (drop n rest)
seam done rest n =
    ap (λ t. done ++ t) (sym (take-append-drop n rest)) ∙ sym (append_assoc done (take n rest) (drop n rest))
    ∙ ap (λ t. (done ++ take n rest) ++ t) (sym (take_all (length rest - n) (drop n rest) (omega (arith, length-drop n rest))))

pub loop-rest-preserved : goal.loop-rest-preserved
loop-rest-preserved g c =
    let done = c.loop-rest.invariant.0 in
    let rest = c.loop-rest.rest.now in
    let n = c.in_ok-n.n in (
      done ++ take n rest,
      c.loop-rest.invariant.1 ∙ seam done rest n,
      took_more c.loop-rest.invariant.2 (record { appended = c.in_ok-n.ensures.bytes; counted = c.in_ok-n.ensures.ok }),
    )
