use Rattle.ast_json_nodes.specs.code.Errors.{IsMemory}
use Rattle.ast_json_nodes.specs.code.ToldErrors.{IsOfNoTree, IsToldOfMemberBy}
use Rattle.ast_json_nodes.proofs.general.PassedErrors.{passed}
use Rattle.graphql_ast_json.proofs.nodes.ToldMembers.{where_none, where_some}
use Rattle.graphql_ast_json.proofs.members.member.Goals as goal

pub returns-in_err-json-clause-told : goal.returns-in_err-json-clause-told
returns-in_err-json-clause-told g c =
    passed _ c.in_err-json.field-0.0
    (λ error. ¬ IsMemory error → IsToldOfMemberBy (IsOfNoTree (g.F.Form.is_json_of c.args.node.unknown)) c.args.node c.args.name.now error)
    (λ m. where_none _ _ _ (c.in_err-json.ensures.err m) (c.in_err-json.ensures.told m)) c.from_residual.ensures.1

pub returns-in-Err-clause-told : goal.returns-in-Err-clause-told
returns-in-Err-clause-told g c refused =
    where_some _ _ _ _ c.in_ok-json.ensures.ok
    (c.in-Err.error, c.in-Err.ensures.err (λ m. refused (c.within.ensures.memory m)), c.within.ensures.told)
