use Rattle.std.proofs.Common.{◌∙◌}
use Rattle.graphql_values.specs.code.Queries.{is_directive_named}
use Rattle.graphql_values.proofs.general.PositionAndFind.{copied_if_any}
use Rattle.graphql_values.proofs.directive_list.DirectiveList.has.Goals as goal

pub returns : goal.returns
returns c = c.is_some.ensures ∙ copied_if_any (is_directive_named c.args.name.now) c.get.result c.args.self.now.0.items c.get.ensures
