use Rattle.std.proofs.Common.{◌≡◌, ℕ, ◌+◌, ◌<◌, List, [], ◌∷◌, get_or, length, ap, arith, refl, sym, ◌∙◌}
use Rattle.std.proofs.lemmas.Str.{IsCharBoundary-start, IsCharBoundary-after_ascii}
use Rattle.json.specs.Print.{escape_byte}
use Rattle.json_text.proofs.EscapedBytes.{plain}
use Rattle.graphql_text.proofs.strings.EscapeRuns.{flat_parted, run_plain, run_escape, run_restart}
use Rattle.json_text.proofs.string.write_runs.Goals as goal
use Rattle.json_text.proofs.string.write_runs.Goals.{then-needs_escape+else-is_stopped, else-needs_escape}

pub loop-i-init : goal.loop-i-init
loop-i-init g c = record { order = omega arith; boundary = IsCharBoundary-start c.args.text.now c.utf8.text; plain = refl; wrote = g.met.O.Target.nothing _ }

pub returns-then-is_stopped : goal.returns-then-is_stopped
returns-then-is_stopped g c =
    let I = c.loop-i.invariant in
    rw (← flat_parted escape_byte c.args.text.now c.loop-i.from)
    (g.met.O.Target.more _ _ _ _ _ I.wrote (g.met.O.Target.idle _ _ (c.is_stopped.ensures.0 c.if-is_stopped.true)))

pub loop-i-preserved : goal.loop-i-preserved
loop-i-preserved g c =
    let t : List ℕ = c.args.text.now in
    let i : ℕ = c.loop-i.i in
    let I = c.loop-i.invariant in
    let within : i < length t = omega (arith, ap length c.as_bytes-byte-items.ensures.value) in
    elim c.if-needs_escape.branch [
      | then-needs_escape+else-is_stopped w ↦
          let ascii = rw c.as_bytes-byte-items.ensures.value at (c.needs_escape.ensures.ascii w.if-needs_escape.true) in
          rw (w.from-is, w.out-is) (record {
            order = omega arith;
            boundary = IsCharBoundary-after_ascii t i c.utf8.text within ascii;
            plain = run_restart escape_byte t (i + 1);
            wrote =
                rw (← run_escape escape_byte t (escape_byte (get_or t i 0)) c.loop-i.from i within refl I.plain)
                (g.met.O.Target.more _ _ _ _ _
                (g.met.O.Target.more _ _ _ _ _ I.wrote (rw w.range.ensures.value at w.write_piece.ensures))
                (rw c.as_bytes-byte-items.ensures.value at w.write_escape.ensures));
          })
      | else-needs_escape w ↦
          let unescaped = sym c.needs_escape.ensures.escaped ∙ w.if-needs_escape.false in
          let is : escape_byte (get_or t i 0) ≡ get_or t i 0 ∷ [] = plain (get_or t i 0) (rw c.as_bytes-byte-items.ensures.value at unescaped) in
          rw (w.from-is, w.out-is) (record {
            order = omega arith;
            boundary = I.boundary;
            plain = run_plain escape_byte t c.loop-i.from i I.order within is I.plain;
            wrote = I.wrote;
          })
    ]
