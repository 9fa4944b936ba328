use Rattle.std.proofs.Common.{◌≡◌, ℕ, ◌-◌, ◌≤◌, ◌++◌, List, length, drop}
use Rattle.std.specs.Str.{IsCharBoundary}
use Rattle.graphql_text.specs.strings.BlockForm.{escape_quotes}
use Rattle.graphql_text.proofs.strings.EscapeRuns.{run}
use Rattle.graphql_text.proofs.block_string.write_runs.Given as goal

abbrev pub invariant-loop-i : goal.invariant-loop-i
invariant-loop-i g l = record {
  order : l.from ≤ l.i;
  within : l.i ≤ length l.text;
  boundary : IsCharBoundary l.text l.from;
  done : List ℕ;
  wrote : g.O.Target.wrote l.fn.out done l.out;
  left : done ++ (run l.text l.from l.i ++ escape_quotes (drop l.i l.text)) ≡ escape_quotes l.text;
}

abbrev pub decreases-loop-i : goal.decreases-loop-i
decreases-loop-i g l = length l.text - l.i
