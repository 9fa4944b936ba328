use Rattle.std.proofs.Common.{sym}
use Rattle.graphql_ast_json.proofs.general.OkValues.{one_then}
use Rattle.graphql_ast_json.proofs.directive_list.DirectiveListAstJson.to_ast_json.Goals as goal

pub returns-clause-ok : goal.returns-clause-ok
returns-clause-ok c =
    one_then c.write_list.result c.write_list.ensures (λ json are unknown. rw (sym c.as_slice.ensures.value) (are unknown))
