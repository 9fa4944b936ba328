use Rattle.std.proofs.Common.{codes}
use Rattle.graphql_values.specs.kinds.Values.{int_value}
use Rattle.graphql_text.specs.lexical.Literals.{IntText}
use Rattle.graphql_ast_json.specs.kinds.ValueJson.{IsValue}
use Rattle.ast_json_nodes.specs.code.Errors.{IsMemory}
use Rattle.ast_json_nodes.specs.code.JsonNodes.{node_data}
use Rattle.ast_json_nodes.proofs.general.PassedErrors.{passed}
use Rattle.ast_json_nodes.specs.code.ToldErrors.{IsToldOfText}
use Rattle.graphql_ast_json.proofs.nodes.ToldTexts.{no_text}
use Rattle.graphql_ast_json.proofs.value.read.int.Goals as goal

pub returns-in_err-text-clause-err : goal.returns-in_err-text-clause-err
returns-in_err-text-clause-err c =
    let none : ¬ IsMemory c.in_err-text.field-0.0 → (int : IntText) → ¬ IsValue c.args.node.unknown (int_value int) (node_data c.args.node) =
    λ m int is. c.in_err-text.ensures.err m int.text is in
    passed _ _ _ none c.from_residual.ensures.1

pub returns-in_err-text-clause-told : goal.returns-in_err-text-clause-told
returns-in_err-text-clause-told c =
    passed _ c.in_err-text.field-0.0 (λ error. ¬ IsMemory error → IsToldOfText c.args.node (codes "IntValue") (codes "an integer") error)
    (λ m. (
      (c.in_err-text.ensures.told m).0,
      λ is. no_text _ _ _ (λ text same. c.in_err-text.ensures.err m text (is, same)) ((c.in_err-text.ensures.told m).1 is),
    )) c.from_residual.ensures.1
