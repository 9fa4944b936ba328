use Rattle.graphql_text.proofs.block_string.write_on_one_line.Goals as goal

pub returns : goal.returns
returns g c = g.met.O.Target.more _ _ _ _ _ c.text.ensures (g.met.O.Target.more _ _ _ _ _ c.write_escaped.ensures c.text-2.ensures)
