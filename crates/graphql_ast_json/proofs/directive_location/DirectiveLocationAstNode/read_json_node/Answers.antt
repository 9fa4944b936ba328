use Rattle.graphql_values.specs.kinds.DirectiveLocations.{DirectiveLocationTree, location_name}
use Rattle.ast_json_nodes.specs.code.Errors.{IsMemory}
use Rattle.ast_json_nodes.specs.code.JsonNodes.{node_data}
use Rattle.graphql_ast_json.specs.kinds.DefinitionJson.{IsDirectiveLocation}
use Rattle.ast_json_nodes.proofs.general.PassedErrors.{passed}
use Rattle.graphql_ast_json.proofs.directive_location.DirectiveLocationAstNode.read_json_node.Goals as goal

pub returns-in_err-text-clause-err : goal.returns-in_err-text-clause-err
returns-in_err-text-clause-err c =
    let none : ¬ IsMemory c.in_err-text.field-0.0 → (tree : DirectiveLocationTree)
    → ¬ IsDirectiveLocation c.args.node.unknown tree (node_data c.args.node) =
    λ m tree is. c.in_err-text.ensures.err m (location_name tree) is in
    passed _ _ _ none c.from_residual.ensures.1
