use Rattle.graphql_values.specs.kinds.TypeReferences.{TypeTree}
use Rattle.ast_json_nodes.specs.code.JsonNodes.{node_data}
use Rattle.ast_json_nodes.specs.code.Errors.{IsMemory}
use Rattle.graphql_ast_json.specs.kinds.TypeJson.{IsTypeReference}
use Rattle.ast_json_nodes.proofs.general.PassedErrors.{passed}
use Rattle.graphql_ast_json.proofs.kinds.TypeJsonByKind.{no_kind}
use Rattle.graphql_ast_json.proofs.types.read.read_type.Goals as goal

pub returns-in_err-kind-clause-err : goal.returns-in_err-kind-clause-err
returns-in_err-kind-clause-err c =
    let json = node_data c.args.node in
    let none : ¬ IsMemory c.in_err-kind.field-0.0 → (tree : TypeTree) → ¬ IsTypeReference c.args.node.unknown tree json =
    λ m. no_kind c.args.node.unknown json (c.in_err-kind.ensures.err m) in
    passed _ _ _ none c.from_residual.ensures.1
