use Rattle.std.specs.Prelude.{encode_utf8_all}
use Rattle.graphql_text.specs.lexical.Literals.{StringText}
use Rattle.ast_json_nodes.specs.code.Errors.{IsMemory}
use Rattle.ast_json_nodes.specs.code.JsonNodes.{node_data}
use Rattle.ast_json_nodes.specs.nodes.Nodes.{IsStringValue}
use Rattle.ast_json_nodes.proofs.general.PassedErrors.{passed}
use Rattle.graphql_ast_json.proofs.trees.DescriptionTexts.{description_is}
use Rattle.graphql_ast_json.proofs.string.NodeStrAstJson.read_json.Goals as goal

pub returns-in_err-text-clause-err : goal.returns-in_err-text-clause-err
returns-in_err-text-clause-err c =
    let none : ¬ IsMemory c.in_err-text.field-0.0 → (tree : StringText) → ¬ IsStringValue c.args.node.unknown tree (node_data c.args.node) =
    λ m tree is. c.in_err-text.ensures.err m (encode_utf8_all tree.text) is in
    passed _ _ _ none c.from_residual-in_err-text.ensures.1

pub returns-clause-ok : goal.returns-clause-ok
returns-clause-ok c =
    description_is c.args.node.unknown c.in_ok-text_at.field-0 c.in_ok-text.text.now (node_data c.args.node) c.in_ok-text_at.ensures.0
    c.in_ok-text.ensures.ok
