use Rattle.std.proofs.Common.{Some, sym, ap, ◌∙◌}
use Rattle.std.specs.Option.{option_copied}
use Rattle.graphql_values.specs.code.Queries.{is_directive_named}
use Rattle.graphql_values.proofs.general.PositionAndFind.{found_at_position, not_found}
use Rattle.graphql_values.proofs.directive_list.DirectiveList.get.Goals as goal

pub returns-in_err-index : goal.returns-in_err-index
returns-in_err-index c =
    let found = rw c.deref.ensures.value at c.first_index.ensures.index in
    ap option_copied c.from_residual.ensures ∙ sym (not_found (is_directive_named c.args.name.now) c.args.self.now.0.items (sym found ∙ c.in_err-index.was))

pub returns : goal.returns
returns c =
    let found = rw c.deref.ensures.value at c.first_index.ensures.index in
    ap Some c.index.ensures
    ∙ sym (found_at_position (is_directive_named c.args.name.now) c.args.self.now.0.items _
    (sym found ∙ c.in_ok-index.was) c.index.result.now)
