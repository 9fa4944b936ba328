use Rattle.std.proofs.Common.{codes}
use Rattle.ast_json_nodes.specs.code.Errors.{IsMemory}
use Rattle.ast_json_nodes.specs.code.ToldErrors.{IsOfNoTree, IsToldOfMemberBy, IsToldOfVariable}
use Rattle.ast_json_nodes.specs.nodes.Nodes.{IsName}
use Rattle.ast_json_nodes.proofs.general.PassedErrors.{passed, turned}
use Rattle.graphql_ast_json.proofs.value.read.variable_name.Goals as goal

pub returns-in_err-check-clause-told : goal.returns-in_err-check-clause-told
returns-in_err-check-clause-told c =
    passed _ c.in_err-check.field-0.0 (λ error. ¬ IsMemory error → IsToldOfVariable c.args.node error)
    (λ m. (λ not. c.in_err-check.ensures.told m, λ is. absurd (c.in_err-check.ensures.err m is))) c.from_residual.ensures.1

pub returns-clause-told : goal.returns-clause-told
returns-clause-told c =
    turned c.member.result (λ error. ¬ IsMemory error → IsToldOfMemberBy (IsOfNoTree (IsName c.args.node.unknown)) c.args.node (codes "name") error)
    (λ error. ¬ IsMemory error → IsToldOfVariable c.args.node error)
    (λ error told m. (λ not. absurd (not c.in_ok-check.ensures.ok), λ is. told m)) c.member.ensures.told
