use Rattle.std.proofs.Common.{take}
use Rattle.serde_json.specs.View.{items_view}
use Rattle.graphql_executable.specs.trees.ExecutableTrees.{selection_trees}
use Rattle.ast_json_nodes.specs.declared.read.Unknown.{Unknown}
use Rattle.graphql_ast_json.specs.kinds.ExecutableJson.{AreSelections}
use Rattle.graphql_ast_json.proofs.selection.write.+selection.Given as goal

abbrev pub invariant-write_selections-loop-selection : goal.invariant-write_selections-loop-selection
invariant-write_selections-loop-selection l = (unknown : Unknown) → AreSelections unknown (selection_trees (take l.selection-index l.selections))
    (items_view l.list.items)
