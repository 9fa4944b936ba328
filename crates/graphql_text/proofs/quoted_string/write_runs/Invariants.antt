use Rattle.std.proofs.Common.{◌≡◌, ◌≤◌, ◌++◌, take, flat_map}
use Rattle.std.specs.Str.{IsCharBoundary}
use Rattle.graphql_text.specs.strings.QuotedForm.{quoted_character}
use Rattle.graphql_text.proofs.strings.EscapeRuns.{run}
use Rattle.graphql_text.proofs.quoted_string.write_runs.Given as goal

abbrev pub invariant-loop-i : goal.invariant-loop-i
invariant-loop-i g l = record {
  order : l.from ≤ l.i;
  boundary : IsCharBoundary l.text l.from;
  plain : flat_map quoted_character (take l.i l.text) ≡ flat_map quoted_character (take l.from l.text) ++ run l.text l.from l.i;
  wrote : g.O.Target.wrote l.fn.out (flat_map quoted_character (take l.from l.text)) l.out;
}
