use Rattle.graphql_type_system.specs.kinds.Schemas.{RootOperationTree}
use Rattle.ast_json_nodes.specs.code.Errors.{IsMemory}
use Rattle.ast_json_nodes.specs.code.JsonNodes.{node_data}
use Rattle.graphql_ast_json.specs.kinds.TypeSystemJson.{IsRootOperation}
use Rattle.ast_json_nodes.proofs.general.PassedErrors.{passed}
use Rattle.graphql_ast_json.proofs.root_operation.Tuple2OperationTypeNamedTypeAstNode.read_json_node.Goals as goal

pub returns-in_err-check-clause-err : goal.returns-in_err-check-clause-err
returns-in_err-check-clause-err c =
    let none : ¬ IsMemory c.in_err-check.field-0.0 → (tree : RootOperationTree) → ¬ IsRootOperation c.args.node.unknown tree (node_data c.args.node) =
    λ m tree is. c.in_err-check.ensures.err m is.0 in
    passed _ _ _ none c.from_residual.ensures.1

pub returns-in_err-operation_type-clause-err : goal.returns-in_err-operation_type-clause-err
returns-in_err-operation_type-clause-err c =
    let none : ¬ IsMemory c.in_err-operation_type.field-0.0 → (tree : RootOperationTree) → ¬ IsRootOperation c.args.node.unknown tree (node_data c.args.node) =
    λ m tree is. c.in_err-operation_type.ensures.err m tree.operation_type is.1 in
    passed _ _ _ none c.from_residual-in_err-operation_type.ensures.1

pub returns-in_err-ty-clause-err : goal.returns-in_err-ty-clause-err
returns-in_err-ty-clause-err c =
    let none : ¬ IsMemory c.in_err-ty.field-0.0 → (tree : RootOperationTree) → ¬ IsRootOperation c.args.node.unknown tree (node_data c.args.node) =
    λ m tree is. c.in_err-ty.ensures.err m tree.type is.2 in
    passed _ _ _ none c.from_residual-in_err-ty.ensures.1
