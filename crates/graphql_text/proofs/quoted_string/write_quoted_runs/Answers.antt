use Rattle.graphql_text.proofs.strings.StringsInUtf8.{quoted_in_chars}
use Rattle.graphql_text.proofs.quoted_string.write_quoted_runs.Goals as goal

pub returns : goal.returns
returns g c =
    rw (← quoted_in_chars c.args.value.now c.utf8.value)
    (g.met.O.Target.more _ _ _ _ _ (g.met.O.Target.more _ _ _ _ _ c.text.ensures c.write_runs.ensures) c.text-2.ensures)
