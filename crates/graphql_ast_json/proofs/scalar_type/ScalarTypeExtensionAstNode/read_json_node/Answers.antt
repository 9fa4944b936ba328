use Rattle.graphql_type_system.specs.kinds.ScalarTypes.{scalar_type_extension_kind}
use Rattle.ast_json_nodes.specs.code.Errors.{IsMemory}
use Rattle.ast_json_nodes.specs.code.JsonNodes.{node_data}
use Rattle.graphql_ast_json.specs.kinds.TypeSystemJson.{IsScalarTypeExtension}
use Rattle.ast_json_nodes.proofs.general.PassedErrors.{passed}
use Rattle.graphql_ast_json.proofs.scalar_type.ScalarTypeExtensionAstNode.read_json_node.Goals as goal

pub returns-in_err-check-clause-err : goal.returns-in_err-check-clause-err
returns-in_err-check-clause-err c =
    let none : ¬ IsMemory c.in_err-check.field-0.0 → (tree : scalar_type_extension_kind.Tree) →
    ¬ IsScalarTypeExtension c.args.node.unknown tree (node_data c.args.node) =
    λ m tree is. c.in_err-check.ensures.err m is.0 in
    passed _ _ _ none c.from_residual.ensures.1

pub returns-in_err-member-clause-err : goal.returns-in_err-member-clause-err
returns-in_err-member-clause-err c =
    let none : ¬ IsMemory c.in_err-member.field-0.0 → (tree : scalar_type_extension_kind.Tree) →
    ¬ IsScalarTypeExtension c.args.node.unknown tree (node_data c.args.node) =
    λ m tree is. c.in_err-member.ensures.err m tree.name is.1.0 in
    passed _ _ _ none c.from_residual-in_err-member.ensures.1

pub returns-in_err-directives-clause-err : goal.returns-in_err-directives-clause-err
returns-in_err-directives-clause-err c =
    let none : ¬ IsMemory c.in_err-directives.field-0.0 → (tree : scalar_type_extension_kind.Tree) →
    ¬ IsScalarTypeExtension c.args.node.unknown tree (node_data c.args.node) =
    λ m tree is. c.in_err-directives.ensures.err m tree.directives is.1.1 in
    passed _ _ _ none c.from_residual-in_err-directives.ensures.1
