use Rattle.std.proofs.Common.{◌≡◌, ℕ, ◌+◌, ◌<◌, true, false, drop}
use Rattle.graphql_text.specs.lexical.Characters.{begins_with, quotes}
use Rattle.graphql_text.proofs.block_string.holds_quotes.Given as goal

abbrev pub invariant-loop-i : goal.invariant-loop-i
invariant-loop-i l = record {
  somewhere : l.found ≡ true → (k : ℕ) × (begins_with quotes (drop k l.text) ≡ true);
  nowhere : l.found ≡ false → (k : ℕ) → k + 2 < l.i → begins_with quotes (drop k l.text) ≡ false;
}
