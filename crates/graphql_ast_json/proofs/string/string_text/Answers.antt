use Rattle.std.proofs.Common.{codes, [], ◌∷◌}
use Rattle.ast_json_nodes.proofs.general.PassedErrors.{passed}
use Rattle.graphql_ast_json.proofs.nodes.ToldTexts.{no_text}
use Rattle.ast_json_nodes.specs.code.Errors.{IsMemory}
use Rattle.ast_json_nodes.specs.code.ToldErrors.{IsToldOfString}
use Rattle.graphql_ast_json.proofs.string.string_text.Goals as goal

pub returns-in_err-check-clause-told : goal.returns-in_err-check-clause-told
returns-in_err-check-clause-told c =
    passed _ c.in_err-check.field-0.0 (λ error. ¬ IsMemory error → IsToldOfString c.args.node error)
    (λ m. (λ not. c.in_err-check.ensures.told m, λ is. absurd (c.in_err-check.ensures.err m is))) c.from_residual.ensures.1

pub returns-in_err-text-clause-told : goal.returns-in_err-text-clause-told
returns-in_err-text-clause-told c =
    passed _ c.in_err-text.field-0.0 (λ error. ¬ IsMemory error → IsToldOfString c.args.node error)
    (λ m. (λ not. absurd (not c.in_ok-check.ensures.ok), λ is. no_text _ _ _ (c.in_err-text.ensures.err m) (c.in_err-text.ensures.told m)))
    c.from_residual-in_err-text.ensures.1
