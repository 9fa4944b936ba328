use Rattle.std.proofs.Common.{Some, refl, sym, ap, ◌∙◌}
use Rattle.graphql_values.specs.code.Queries.{is_input_value_definition_named}
use Rattle.graphql_values.proofs.general.PositionAndFind.{changed_at_position, found_at_position, not_found}
use Rattle.graphql_values.proofs.directive_definition.DirectiveDefinition.argument_by_name_mut.Goals as goal

pub returns-in-Some : goal.returns-in-Some
returns-in-Some c =
    let test = is_input_value_definition_named c.args.name.now in
    let items = c.args.self.now.arguments.items in
    let is_index = sym c.argument_index.ensures.index ∙ c.in-Some.is in (
      (
        refl,
        (λ node some. (changed_at_position test (λ _. node) items _ c.in-Some.index is_index (λ _. refl), refl, refl, refl, refl)),
        tt,
      ),
      ap Some c.index_mut.ensures.value ∙ sym (found_at_position test items c.in-Some.index is_index c.index_mut.result.now),
    )

pub returns-in-None : goal.returns-in-None
returns-in-None c =
    let none =
    not_found (is_input_value_definition_named c.args.name.now) c.args.self.now.arguments.items
    (sym c.argument_index.ensures.index ∙ c.in-None.is) in
    ((refl, (λ node none. absurd cc), refl), sym none)
