use Rattle.graphql_values.specs.kinds.Arguments.{ArgumentTree}
use Rattle.ast_json_nodes.specs.code.Errors.{IsMemory}
use Rattle.ast_json_nodes.specs.code.JsonNodes.{node_data}
use Rattle.graphql_ast_json.specs.kinds.DirectiveJson.{IsArgument}
use Rattle.ast_json_nodes.proofs.general.PassedErrors.{passed}
use Rattle.graphql_ast_json.proofs.argument.ArgumentAstNode.read_json_node.Goals as goal

pub returns-in_err-name-clause-err : goal.returns-in_err-name-clause-err
returns-in_err-name-clause-err c =
    let none : ¬ IsMemory c.in_err-name.field-0.0 → (argument : ArgumentTree) → ¬ IsArgument c.args.node.unknown argument (node_data c.args.node) =
    λ m argument is. c.in_err-name.ensures.err m argument.name argument.value is in
    passed _ _ _ none c.from_residual.ensures.1
