use Rattle.std.proofs.Common.{ℕ, List}
use Rattle.std.specs.List.{repeat}
use Rattle.graphql_text.proofs.strings.StringsInUtf8.{break_in_chars}
use Rattle.graphql_text.proofs.strings.UnescapedLine.{plain_over_lines}
use Rattle.graphql_text.proofs.block_string.write_plain_over_lines.Goals as goal

pub returns : goal.returns
returns g c =
    let indent : List ℕ = repeat c.args.level c.args.prefix.now in
    let first = rw (← break_in_chars c.args.level c.args.prefix.now c.utf8.prefix) at c.line_break.ensures in
    let last = rw (← break_in_chars c.args.level c.args.prefix.now c.utf8.prefix) at c.line_break-2.ensures in
    rw (plain_over_lines indent c.args.line.now c.requires.some c.requires.plain)
    (g.met.O.Target.more _ _ _ _ _ c.text.ensures
    (g.met.O.Target.more _ _ _ _ _ (g.met.O.Target.more _ _ _ _ _ first c.write_piece.ensures)
    (g.met.O.Target.more _ _ _ _ _ last c.text-2.ensures)))
