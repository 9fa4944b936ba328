use Rattle.std.proofs.Common.{◌+◌, ◌*◌}
use Rattle.serde_json.specs.Data.{depth}
use Rattle.ast_json_nodes.specs.code.JsonNodes.{node_data}
use Rattle.graphql_ast_json.proofs.types.read.+types.Given as goal

abbrev pub decreases-type_of_kind : goal.decreases-type_of_kind
decreases-type_of_kind l = 4 * depth (node_data l.node) + 2

abbrev pub decreases-list_item : goal.decreases-list_item
decreases-list_item l = 4 * depth (node_data l.node) + 1

abbrev pub decreases-non_null_type : goal.decreases-non_null_type
decreases-non_null_type l = 4 * depth (node_data l.node) + 1

abbrev pub decreases-without_null : goal.decreases-without_null
decreases-without_null l = 4 * depth (node_data l.node) + 2
