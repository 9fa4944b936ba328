use Rattle.std.proofs.Common.{◌≡◌, ℕ, ◌-◌, ◌<◌, ◌==◌, ◌&&◌, Bool, List, length, get_or, drop, ap, arith}
use Rattle.graphql_text.specs.lexical.Characters.{begins_with, quotes}
use Rattle.graphql_text.proofs.strings.ThreeQuotesScan.{quotes_at, found_more, not_found_more, found_decides}
use Rattle.graphql_text.proofs.block_string.holds_quotes.Goals as goal

pub loop-i-preserved : goal.loop-i-preserved
loop-i-preserved c =
    let t : List ℕ = c.args.text.now in
    let i : ℕ = c.loop-i.i in
    let within : i < length t = omega (arith, ap length c.as_bytes-bytes.ensures.value) in
    let here : Bool = ((get_or t (i - 2) 0 == 34) && (get_or t (i - 1) 0 == 34)) && (get_or t i 0 == 34) in
    let is : begins_with quotes (drop (i - 2) t) ≡ here = quotes_at t (i - 2) (i - 1) i (omega arith) (omega arith) within in
    rw c.as_bytes-bytes.ensures.value (record {
      somewhere = found_more t c.loop-i.found here (i - 2) i (omega arith) is c.loop-i.invariant.somewhere;
      nowhere = not_found_more t c.loop-i.found here (i - 2) i (omega arith) is c.loop-i.invariant.nowhere;
    })

pub returns : goal.returns
returns c =
    found_decides c.args.text.now c.loop-i.found c.loop-i.invariant.somewhere
    (λ e k l. c.loop-i.invariant.nowhere e k (omega (arith, l, ap length c.as_bytes-bytes.ensures.value)))
