use Rattle.std.proofs.Common.{codes}
use Rattle.graphql_text.specs.lexical.Literals.{NameText}
use Rattle.ast_json_nodes.specs.code.Errors.{IsMemory}
use Rattle.ast_json_nodes.specs.code.JsonNodes.{node_data}
use Rattle.ast_json_nodes.specs.code.NodeReading.{IsTextNode}
use Rattle.ast_json_nodes.proofs.general.PassedErrors.{passed}
use Rattle.ast_json_nodes.specs.code.ToldErrors.{IsToldOfText}
use Rattle.graphql_ast_json.proofs.nodes.ToldTexts.{no_text}
use Rattle.graphql_ast_json.proofs.name.name_of_kind.Goals as goal

pub returns-in_err-text-clause-err : goal.returns-in_err-text-clause-err
returns-in_err-text-clause-err c =
    let none : ¬ IsMemory c.in_err-text.field-0.0 → (name : NameText) → ¬ IsTextNode c.args.node.unknown c.args.kind.now name.text (node_data c.args.node) =
    λ m name is. c.in_err-text.ensures.err m name.text is in
    passed _ _ _ none c.from_residual.ensures.1

pub returns-in_err-text-clause-told : goal.returns-in_err-text-clause-told
returns-in_err-text-clause-told c =
    passed _ c.in_err-text.field-0.0 (λ error. ¬ IsMemory error → IsToldOfText c.args.node c.args.kind.now (codes "a name") error)
    (λ m. (
      (c.in_err-text.ensures.told m).0,
      λ is. no_text _ _ _ (λ text same. c.in_err-text.ensures.err m text (is, same)) ((c.in_err-text.ensures.told m).1 is),
    )) c.from_residual.ensures.1
