use Rattle.std.proofs.Common.{◌≡◌, [], ap, sym, ◌∙◌, arith}
use Rattle.std.proofs.lemmas.List.{nil_from_length}
use Rattle.graphql_text.proofs.strings.LinesByBytes.{some_unindented, unindented_lines}
use Rattle.graphql_text.proofs.block_string.has_unindented_line.Goals as goal

pub returns : goal.returns
returns c =
    let none : c.loop-first.rest.now ≡ [] = nil_from_length _ (grind arith) in
    sym (unindented_lines c.args.value.now ∙ c.loop-first.invariant ∙ ap (some_unindented c.loop-first.is_line_start) none)
