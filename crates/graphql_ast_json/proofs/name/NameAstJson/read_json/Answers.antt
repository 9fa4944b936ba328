use Rattle.graphql_text.specs.lexical.Literals.{NameText}
use Rattle.ast_json_nodes.specs.code.Errors.{IsMemory}
use Rattle.ast_json_nodes.specs.code.JsonNodes.{node_data}
use Rattle.ast_json_nodes.specs.nodes.Nodes.{IsName}
use Rattle.ast_json_nodes.proofs.general.PassedErrors.{passed}
use Rattle.graphql_ast_json.proofs.name.NameAstJson.read_json.Goals as goal

pub returns-in_err-name-clause-err : goal.returns-in_err-name-clause-err
returns-in_err-name-clause-err c =
    let none : ¬ IsMemory c.in_err-name.field-0.0 → (name : NameText) → ¬ IsName c.args.node.unknown name (node_data c.args.node) =
    c.in_err-name.ensures.err in
    passed _ _ _ none c.from_residual-in_err-name.ensures.1
