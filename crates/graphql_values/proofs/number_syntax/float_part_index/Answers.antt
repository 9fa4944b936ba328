use Rattle.std.proofs.Common.{length, ap, subst, sym, ◌∙◌, ◌≤◌}
use Rattle.std.specs.Option.{unwrap_or}
use Rattle.graphql_text.specs.lexical.Literals.{begins_float_part}
use Rattle.graphql_values.proofs.general.FirstPlace.{place_is, place_le}
use Rattle.graphql_values.proofs.number_syntax.float_part_index.Goals as goal

pub returns-clause-index : goal.returns-clause-index
returns-clause-index c =
    c.unwrap_or.ensures ∙ ap (λ found. unwrap_or found (length c.args.bytes.now)) c.first_float_mark.ensures
    ∙ place_is begins_float_part c.args.bytes.now

pub returns-clause-within : goal.returns-clause-within
returns-clause-within c =
    let is =
    c.unwrap_or.ensures ∙ ap (λ found. unwrap_or found (length c.args.bytes.now)) c.first_float_mark.ensures
    ∙ place_is begins_float_part c.args.bytes.now in
    subst (λ place. place ≤ length c.args.bytes.now) (sym is) (place_le begins_float_part c.args.bytes.now)
