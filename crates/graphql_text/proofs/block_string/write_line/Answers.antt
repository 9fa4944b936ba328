use Rattle.std.proofs.Common.{◌<◌, length, arith}
use Rattle.std.specs.List.{repeat}
use Rattle.graphql_text.proofs.strings.StringsInUtf8.{break_in_chars}
use Rattle.graphql_text.proofs.strings.ThreeQuotesScan.{broken_some}
use Rattle.graphql_text.proofs.block_string.write_line.Goals as goal

pub returns : goal.returns
returns g c =
    let some : 0 < length c.args.line.now = grind arith in
    rw (broken_some (repeat c.args.level c.args.prefix.now) c.args.line.now some)
    (g.met.O.Target.more _ _ _ _ _ (rw (← break_in_chars c.args.level c.args.prefix.now c.utf8.prefix) at c.line_break.ensures) c.write_escaped.ensures)
