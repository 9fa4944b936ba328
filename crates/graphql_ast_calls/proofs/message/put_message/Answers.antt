use Rattle.std.proofs.Common.{◌≡◌, ℕ, List, ◌++◌, length, take, drop, ap, subst, sym, ◌∙◌}
use Rattle.graphql_ast_calls.specs.Messages.{HasMessage, text_front}
use Rattle.graphql_ast_calls.proofs.MessageFronts.{has_message}
use Rattle.graphql_ast_calls.proofs.message.put_message.Goals as goal

pub returns : goal.returns
returns c =
    let old = c.args.out.now in
    let message = c.args.message.now in
    let room = c.min-room.result in
    let front = c.text_front-front.result.now in
    let is : front ≡ text_front (take room message) = c.text_front-front.ensures.text ∙ ap (λ l. text_front (take room l)) c.as_bytes.ensures.value in
    subst (λ (l : List ℕ). HasMessage old (l ++ drop (length front) old) (length message)) (sym c.copy_from_slice.ensures.after)
    (has_message old message front room c.utf8.message c.min-room.ensures is)
