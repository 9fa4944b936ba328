use Rattle.ast_json_nodes.proofs.general.PassedErrors.{passed}
use Rattle.ast_json_nodes.specs.code.Errors.{IsMemory}
use Rattle.ast_json_nodes.specs.code.ToldErrors.{IsToldOfBoolean}
use Rattle.graphql_ast_json.proofs.value.read.boolean.Goals as goal

pub returns-in_err-check-clause-told : goal.returns-in_err-check-clause-told
returns-in_err-check-clause-told c =
    passed _ c.in_err-check.field-0.0 (λ error. ¬ IsMemory error → IsToldOfBoolean c.args.node error)
    (λ m. (λ not. c.in_err-check.ensures.told m, λ is. absurd (c.in_err-check.ensures.err m is))) c.from_residual.ensures.1
