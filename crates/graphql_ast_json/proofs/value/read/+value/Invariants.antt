use Rattle.std.proofs.Common.{◌+◌, ◌*◌, take}
use Rattle.serde_json.specs.Data.{depth, items_depth}
use Rattle.serde_json.specs.View.{items_of}
use Rattle.parsed_json.specs.AnyJson.{item_datas, items_data}
use Rattle.ast_json_nodes.specs.code.JsonNodes.{node_data}
use Rattle.graphql_values.specs.trees.ValueTrees.{value_trees, object_field_trees}
use Rattle.graphql_ast_json.specs.kinds.ValueJson.{AreValues, AreObjectFields}
use Rattle.graphql_ast_json.proofs.value.read.+value.Given as goal

abbrev pub decreases-read_value : goal.decreases-read_value
decreases-read_value l = 3 * depth (node_data l.node) + 2

abbrev pub decreases-read_value_node : goal.decreases-read_value_node
decreases-read_value_node l = 3 * depth (node_data l.node) + 3

abbrev pub decreases-list_items : goal.decreases-list_items
decreases-list_items l = 3 * depth (node_data l.node) + 1

abbrev pub decreases-values : goal.decreases-values
decreases-values l = 3 * items_depth (items_data l.items) + 4

abbrev pub decreases-object_fields : goal.decreases-object_fields
decreases-object_fields l = 3 * depth (node_data l.node) + 1

abbrev pub decreases-fields : goal.decreases-fields
decreases-fields l = 3 * items_depth (items_data l.items) + 3

abbrev pub decreases-named_value : goal.decreases-named_value
decreases-named_value l = 3 * depth (node_data l.node) + 1

abbrev pub decreases-object_field : goal.decreases-object_field
decreases-object_field l = 3 * depth (node_data l.node) + 2

abbrev pub invariant-values-loop-index : goal.invariant-values-loop-index
invariant-values-loop-index l = AreValues l.node.unknown (value_trees l.values.items) (items_of (take l.index (item_datas l.items)))

abbrev pub invariant-fields-loop-index : goal.invariant-fields-loop-index
invariant-fields-loop-index l = AreObjectFields l.node.unknown (object_field_trees l.fields.items) (items_of (take l.index (item_datas l.items)))
