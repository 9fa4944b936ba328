use Rattle.std.proofs.Common.{length, ap, subst, sym, ◌∙◌, ◌≤◌}
use Rattle.std.specs.Option.{unwrap_or}
use Rattle.graphql_text.specs.lexical.Literals.{is_exponent_indicator}
use Rattle.graphql_values.proofs.general.FirstPlace.{place_is, place_le}
use Rattle.graphql_values.proofs.number_syntax.exponent_index.Goals as goal

pub returns-clause-index : goal.returns-clause-index
returns-clause-index c =
    c.unwrap_or.ensures ∙ ap (λ found. unwrap_or found (length c.args.bytes.now)) c.first_exponent_indicator.ensures
    ∙ place_is is_exponent_indicator c.args.bytes.now

pub returns-clause-within : goal.returns-clause-within
returns-clause-within c =
    let is =
    c.unwrap_or.ensures ∙ ap (λ found. unwrap_or found (length c.args.bytes.now)) c.first_exponent_indicator.ensures
    ∙ place_is is_exponent_indicator c.args.bytes.now in
    subst (λ place. place ≤ length c.args.bytes.now) (sym is) (place_le is_exponent_indicator c.args.bytes.now)
