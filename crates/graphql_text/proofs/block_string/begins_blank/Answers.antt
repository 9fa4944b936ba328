use Rattle.std.proofs.Common.{◌≡◌, [], ap, sym, ◌∙◌, arith}
use Rattle.std.proofs.lemmas.List.{nil_from_length}
use Rattle.graphql_text.proofs.strings.LinesByBytes.{first_blank, first_line}
use Rattle.graphql_text.proofs.block_string.begins_blank.Goals as goal

pub returns : goal.returns
returns c =
    let none : c.loop-first.rest.now ≡ [] = nil_from_length _ (grind arith) in
    sym (first_line c.args.value.now ∙ c.loop-first.invariant ∙ ap (first_blank) none)
