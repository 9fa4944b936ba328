use Rattle.json_text.proofs.string.write_string.Goals as goal

pub returns : goal.returns
returns g c = g.met.O.Target.more _ _ _ _ _ (g.met.O.Target.more _ _ _ _ _ c.text.ensures c.write_runs.ensures) c.text-2.ensures
