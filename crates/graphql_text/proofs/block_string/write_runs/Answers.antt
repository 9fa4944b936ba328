use Rattle.std.proofs.Common.{◌≡◌, ℕ, ◌<◌, ◌++◌, List, [], true, false, length, drop, refl, ap, ◌∙◌, arith}
use Rattle.std.proofs.lemmas.Str.{IsCharBoundary-start}
use Rattle.graphql_text.specs.lexical.Characters.{begins_with, quotes, escaped_quotes}
use Rattle.graphql_text.proofs.strings.EscapeRuns.{run}
use Rattle.graphql_text.proofs.strings.ThreeQuotesScan.{quotes_end, scan_plain, scan_more, begins_rest, after_quotes}
use Rattle.graphql_text.proofs.block_string.write_runs.Goals as goal

pub loop-i-init : goal.loop-i-init
loop-i-init g c = record {
  order = omega arith;
  within = omega arith;
  boundary = IsCharBoundary-start c.args.text.now c.utf8.text;
  done = [];
  wrote = g.met.O.Target.nothing _;
  left = refl;
}

pub returns-then-is_stopped : goal.returns-then-is_stopped
returns-then-is_stopped g c =
    let I = c.loop-i.invariant in
    rw (← I.left) (g.met.O.Target.more _ _ _ _ _ I.wrote (g.met.O.Target.idle _ _ (c.is_stopped.ensures.0 c.if-is_stopped.true)))

pub loop-i-preserved-then-begins_with_quotes : goal.loop-i-preserved-then-begins_with_quotes
loop-i-preserved-then-begins_with_quotes g c =
    let t : List ℕ = c.args.text.now in
    let i : ℕ = c.loop-i.i in
    let I = c.loop-i.invariant in
    let q : begins_with quotes (drop i t) ≡ true =
    begins_rest t i _ true (rw c.as_bytes-bytes.ensures.value at c.begins_with_quotes.ensures) c.if-begins_with_quotes.true in
    record {
      order = omega arith;
      within = omega (arith, quotes_end t i q);
      boundary = after_quotes t i c.utf8.text q;
      done = (I.done ++ run t c.loop-i.from i) ++ escaped_quotes;
      wrote = g.met.O.Target.more _ _ _ _ _ (g.met.O.Target.more _ _ _ _ _ I.wrote (rw c.range.ensures.value at c.write_piece.ensures)) c.text.ensures;
      left = scan_more t I.done c.loop-i.from i q ∙ I.left;
    }

pub loop-i-preserved : goal.loop-i-preserved
loop-i-preserved g c =
    let t : List ℕ = c.args.text.now in
    let i : ℕ = c.loop-i.i in
    let I = c.loop-i.invariant in
    let within : i < length t = omega (arith, ap length c.as_bytes-bytes.ensures.value) in
    let q : begins_with quotes (drop i t) ≡ false =
    begins_rest t i _ false (rw c.as_bytes-bytes.ensures.value at c.begins_with_quotes.ensures) c.if-begins_with_quotes.false in
    record {
      order = omega arith;
      within = omega arith;
      boundary = I.boundary;
      done = I.done;
      wrote = I.wrote;
      left = ap (λ (x : List ℕ). I.done ++ x) (scan_plain t c.loop-i.from i I.order within q) ∙ I.left;
    }
