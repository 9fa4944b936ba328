use Rattle.std.proofs.Common.{◌+◌, sym, ap, ◌∙◌, arith}
use Rattle.std.proofs.Math.ListN.{drop_of_length-le}
use Rattle.graphql_ast.proofs.LineEnds.{ends_in, terminators_behind}
use Rattle.graphql_ast.proofs.document.lines_and_columns.line_ends.Goals as goal

pub returns : goal.returns
returns c =
    let none = drop_of_length-le c.args.bytes.now c.loop-byte-test.false in
    let counted = ap (λ rest. c.loop-byte.count + ends_in c.loop-byte.is_behind_return rest) (sym none) ∙ c.loop-byte.invariant.0 in
    let more = terminators_behind c.args.is_behind_return c.args.bytes.now in
    omega (arith, counted, more)
