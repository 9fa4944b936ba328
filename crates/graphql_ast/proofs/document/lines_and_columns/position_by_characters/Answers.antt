use Rattle.std.proofs.Common.{◌+◌, ◌≤◌, false, length, arith, sym, subst, ap, ap₂, ◌∙◌, map-id}
use Rattle.std.proofs.lemmas.Iterator.{YieldsList-from_chars}
use Rattle.std.proofs.lemmas.Iterator.Consumers.{YieldsList-end}
use Rattle.std.proofs.lemmas.List.{length_push}
use Rattle.graphql_ast.specs.LinesAndColumns.{position_behind}
use Rattle.graphql_ast.proofs.LinesAndColumnsSteps.{ends_more, next_position, next_size, position_more, size}
use Rattle.graphql_ast.proofs.document.lines_and_columns.position_by_characters.Goals as goal

pub loop-character-preserved : goal.loop-character-preserved
loop-character-preserved c =
    let text = c.loop-character.yielded in
    let character = c.in-Some.character in
    let before = c.loop-character.invariant in
    let next = c.next_position-position.ensures ∙ ap₂ (λ position behind. next_position position behind character) before.0 before.1 in
    let last = subst (λ position. size position ≤ length text + 2) before.0 before.2 in
    let bound = subst (λ position. size position ≤ length text + 2 + 1) (sym next) (next_size text character (length text + 2) last) in
    (next ∙ sym (position_more text character), sym (ends_more false text character), omega (arith, bound, length_push text character))

pub returns : goal.returns
returns c =
    let end =
    YieldsList-end (YieldsList-from_chars c.args.text.now c.utf8.text cc) c.loop-character.yielded _ c.loop-character.yielded_by _ _
    c.in-None.is c.next.ensures.steps in
    c.loop-character.invariant.0 ∙ ap position_behind (sym (map-id c.loop-character.yielded) ∙ end.0)
