use Rattle.graphql_values.specs.code.Queries.{is_directive_named}
use Rattle.graphql_values.proofs.general.LookUpsAgree.{any_is_some_filtered, find_is_first_filtered}
use Rattle.graphql_values.proofs.laws.directives.directive_look_ups_agree.Goals as goal

pub returns-clause-has : goal.returns-clause-has
returns-clause-has c = any_is_some_filtered (is_directive_named c.args.name.now) c.args.list.now.0.items

pub returns-clause-first : goal.returns-clause-first
returns-clause-first c = find_is_first_filtered (is_directive_named c.args.name.now) c.args.list.now.0.items
