use Rattle.ast_json_nodes.specs.code.Errors.{IsMemory}
use Rattle.ast_json_nodes.specs.code.ToldErrors.{IsToldOfItem, IsToldOfOptionalListBy}
use Rattle.ast_json_nodes.proofs.general.PassedErrors.{passed}
use Rattle.graphql_ast_json.proofs.nodes.ToldMembers.{where_none, where_some}
use Rattle.graphql_ast_json.proofs.members.list.Goals as goal

pub returns-in_err-items-clause-told : goal.returns-in_err-items-clause-told
returns-in_err-items-clause-told g c =
    passed _ c.in_err-items.field-0.0
    (λ error. ¬ IsMemory error → IsToldOfOptionalListBy (IsToldOfItem (g.F.Form.is_json_of c.args.node.unknown)) c.args.node c.args.name.now error)
    (λ m. where_none _ _ _ (c.in_err-items.ensures.err m) (c.in_err-items.ensures.told m)) c.from_residual.ensures.1

pub returns-in-Err-clause-told : goal.returns-in-Err-clause-told
returns-in-Err-clause-told g c refused =
    where_some _ _ _ _ c.in_ok-items.ensures.ok
    (c.in-Err.error, c.in-Err.ensures.told (λ m. refused (c.within.ensures.memory m)), c.within.ensures.told)
