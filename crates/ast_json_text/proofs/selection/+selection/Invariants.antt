use Rattle.std.proofs.Common.{take}
use Rattle.graphql_executable.specs.trees.ExecutableTrees.{selection_trees}
use Rattle.ast_json_nodes.specs.declared.read.Unknown.{Unknown}
use Rattle.graphql_ast_json.specs.kinds.ExecutableJson.{AreSelections}
use Rattle.json_text.proofs.ArrayTexts.{HasItems}
use Rattle.ast_json_text.proofs.selection.+selection.Given as goal

abbrev pub invariant-write_selections-loop-selection : goal.invariant-write_selections-loop-selection
invariant-write_selections-loop-selection g l =
    HasItems g.O.Target.wrote l.fn.out l.out l.is_behind
    (λ jsons. (unknown : Unknown) → AreSelections unknown (selection_trees (take l.selection-index l.selections)) jsons)
