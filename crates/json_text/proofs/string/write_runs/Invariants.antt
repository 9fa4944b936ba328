use Rattle.std.proofs.Common.{◌≡◌, ◌≤◌, ◌++◌, take, flat_map}
use Rattle.std.specs.Str.{IsCharBoundary}
use Rattle.json.specs.Print.{escape_byte}
use Rattle.graphql_text.proofs.strings.EscapeRuns.{run}
use Rattle.json_text.proofs.string.write_runs.Given as goal

abbrev pub invariant-loop-i : goal.invariant-loop-i
invariant-loop-i g l = record {
  order : l.from ≤ l.i;
  boundary : IsCharBoundary l.text l.from;
  plain : flat_map escape_byte (take l.i l.text) ≡ flat_map escape_byte (take l.from l.text) ++ run l.text l.from l.i;
  wrote : g.O.Target.wrote l.fn.out (flat_map escape_byte (take l.from l.text)) l.out;
}
