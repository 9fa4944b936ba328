use Rattle.std.proofs.Common.{Some, sym, ap, ◌∙◌}
use Rattle.std.specs.Option.{option_copied}
use Rattle.graphql_values.specs.code.Queries.{is_input_value_definition_named}
use Rattle.graphql_values.proofs.general.PositionAndFind.{found_at_position, not_found}
use Rattle.graphql_values.proofs.directive_definition.DirectiveDefinition.argument_by_name.Goals as goal

pub returns-in_err-index : goal.returns-in_err-index
returns-in_err-index c =
    let none = sym c.argument_index.ensures.index ∙ c.in_err-index.was in
    ap option_copied c.from_residual.ensures ∙ sym (not_found (is_input_value_definition_named c.args.name.now) c.args.self.now.arguments.items none)

pub returns : goal.returns
returns c =
    let is_index = sym c.argument_index.ensures.index ∙ c.in_ok-index.was in
    ap Some c.index.ensures
    ∙ sym
    (found_at_position (is_input_value_definition_named c.args.name.now) c.args.self.now.arguments.items _ is_index c.index.result.now)
