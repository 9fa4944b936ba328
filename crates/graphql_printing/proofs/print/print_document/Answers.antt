use Rattle.std.proofs.Common.{option_map, OnOk, sym}
use Rattle.std.specs.Io.KnownBytes.{Appends}
use Rattle.graphql_ast.specs.AstTrees.{document_tree}
use Rattle.graphql_printing.specs.Printing.{lines_bytes, prefix_chars}
use Rattle.graphql_printing.proofs.PrintedLines.{prints}
use Rattle.graphql_printing.proofs.print.print_document.Goals as goal

pub returns-clause-printed : goal.returns-clause-printed
returns-clause-printed g c =
    let contents = g.W.Write.contents in
    let options = c.args.options.now in
    let tree = document_tree c.args.document.now in
    let mode = option_map prefix_chars c.in-Ok.prefix in
    let appends : OnOk c.print_under-printed.result (Appends (contents c.args.out) (contents c.into_inner.result) (lines_bytes mode options.level tree)) =
    rw (sym c.new-sink.ensures.writer, c.into_inner.ensures.writer, sym c.from.ensures) c.print_under-printed.ensures.printed in
    prints options tree (contents c.args.out) (contents c.into_inner.result) (contents c.flushed.result.1) mode
    c.print_under-printed.result c.flushed.result.0 c.in-Ok.ensures appends c.flushed.ensures.written c.flushed.ensures.kept
