use Rattle.std.proofs.Common.{◌≡◌, [], true, ap, sym, ◌∙◌, arith}
use Rattle.std.proofs.lemmas.List.{nil_from_length}
use Rattle.graphql_text.proofs.strings.LinesByBytes.{blank_after, last_line}
use Rattle.graphql_text.proofs.block_string.ends_blank.Goals as goal

pub returns : goal.returns
returns c =
    let none : c.loop-last.rest.now ≡ [] = nil_from_length _ (grind arith) in
    sym (last_line c.args.value.now ∙ c.loop-last.invariant ∙ ap (blank_after true) none)
