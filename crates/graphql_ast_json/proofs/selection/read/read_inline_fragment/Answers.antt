use Rattle.graphql_executable.specs.kinds.InlineFragments.{InlineFragmentTree}
use Rattle.ast_json_nodes.specs.code.Errors.{IsMemory}
use Rattle.ast_json_nodes.specs.code.JsonNodes.{node_data}
use Rattle.graphql_ast_json.specs.kinds.ExecutableJson.{IsInlineFragment}
use Rattle.ast_json_nodes.proofs.general.PassedErrors.{passed}
use Rattle.graphql_ast_json.proofs.selection.read.read_inline_fragment.Goals as goal

pub returns-in_err-selection_set-clause-err : goal.returns-in_err-selection_set-clause-err
returns-in_err-selection_set-clause-err c =
    let json = node_data c.args.node in
    let none : ¬ IsMemory c.in_err-selection_set.field-0.0 → (fragment : InlineFragmentTree) → ¬ IsInlineFragment c.args.node.unknown fragment json =
    λ m fragment is. c.in_err-selection_set.ensures.err m fragment.selections is.2 in
    passed _ _ _ none c.from_residual-in_err-selection_set.ensures.1
