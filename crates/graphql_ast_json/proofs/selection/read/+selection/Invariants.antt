use Rattle.std.proofs.Common.{◌+◌, ◌*◌, take}
use Rattle.serde_json.specs.Data.{depth, items_depth}
use Rattle.serde_json.specs.View.{items_of}
use Rattle.parsed_json.specs.AnyJson.{item_datas, items_data}
use Rattle.ast_json_nodes.specs.code.JsonNodes.{node_data}
use Rattle.graphql_executable.specs.trees.ExecutableTrees.{selection_trees}
use Rattle.graphql_ast_json.specs.kinds.ExecutableJson.{AreSelections}
use Rattle.graphql_ast_json.proofs.selection.read.+selection.Given as goal

abbrev pub decreases-read_selection : goal.decreases-read_selection
decreases-read_selection l = 5 * depth (node_data l.node) + 4

abbrev pub decreases-field : goal.decreases-field
decreases-field l = 5 * depth (node_data l.node) + 2

abbrev pub decreases-inline_fragment : goal.decreases-inline_fragment
decreases-inline_fragment l = 5 * depth (node_data l.node) + 2

abbrev pub decreases-optional_set : goal.decreases-optional_set
decreases-optional_set l = 5 * depth (node_data l.node) + 1

abbrev pub decreases-required_set : goal.decreases-required_set
decreases-required_set l = 5 * depth (node_data l.node) + 1

abbrev pub decreases-read_selection_set : goal.decreases-read_selection_set
decreases-read_selection_set l = 5 * depth (node_data l.node)

abbrev pub decreases-selections : goal.decreases-selections
decreases-selections l = 5 * items_depth (items_data l.items) + 5

abbrev pub invariant-selections-loop-index : goal.invariant-selections-loop-index
invariant-selections-loop-index l = AreSelections l.node.unknown (selection_trees l.selections.items) (items_of (take l.index (item_datas l.items)))
