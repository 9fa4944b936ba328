use Rattle.ast_json_nodes.proofs.general.PassedErrors.{passed}
use Rattle.ast_json_nodes.proofs.read.JsonNode.span.Goals as goal
use Rattle.ast_json_nodes.specs.code.Errors.{IsMemory}
use Rattle.ast_json_nodes.specs.code.JsonNodes.{node_data}
use Rattle.ast_json_nodes.specs.nodes.Nodes.{IsLocation}

pub returns-in_err-check_names-clause-err : goal.returns-in_err-check_names-clause-err
returns-in_err-check_names-clause-err c =
    let none : ¬ IsMemory c.in_err-check_names.field-0.0 → ¬ IsLocation c.args.self.unknown (node_data c.args.self) =
    λ m is. c.in_err-check_names.ensures.err m is.0 in
    passed _ _ _ none c.from_residual.ensures.1
