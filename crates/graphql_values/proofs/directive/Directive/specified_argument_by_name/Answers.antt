use Rattle.std.proofs.Common.{Some, sym, ap, ◌∙◌}
use Rattle.std.specs.Option.{option_copied, option_map}
use Rattle.graphql_values.specs.code.Queries.{argument_value, is_argument_named}
use Rattle.graphql_values.proofs.general.PositionAndFind.{found_at_position, not_found}
use Rattle.graphql_values.proofs.directive.Directive.specified_argument_by_name.Goals as goal

pub returns-in_err-index : goal.returns-in_err-index
returns-in_err-index c =
    let none = sym c.specified_argument_index.ensures.index ∙ c.in_err-index.was in
    ap option_copied c.from_residual.ensures
    ∙ sym (ap (option_map argument_value) (not_found (is_argument_named c.args.name.now) c.args.self.now.arguments.items none))

pub returns : goal.returns
returns c =
    let is_index = sym c.specified_argument_index.ensures.index ∙ c.in_ok-index.was in
    let found = found_at_position (is_argument_named c.args.name.now) c.args.self.now.arguments.items _ is_index c.index.result.now in
    ap (λ argument. Some argument.value) c.deref.ensures ∙ ap (λ node. Some (argument_value node)) c.index.ensures ∙ sym (ap (option_map argument_value) found)
