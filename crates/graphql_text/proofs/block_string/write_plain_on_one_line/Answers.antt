use Rattle.graphql_text.proofs.strings.UnescapedLine.{plain_as_is}
use Rattle.graphql_text.proofs.block_string.write_plain_on_one_line.Goals as goal

pub returns : goal.returns
returns g c =
    rw (plain_as_is c.args.line.now c.requires)
    (g.met.O.Target.more _ _ _ _ _ c.text.ensures (g.met.O.Target.more _ _ _ _ _ c.write_piece.ensures c.text-2.ensures))
