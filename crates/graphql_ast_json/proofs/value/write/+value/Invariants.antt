use Rattle.std.proofs.Common.{take}
use Rattle.graphql_values.specs.trees.ValueTrees.{value_trees, object_field_trees}
use Rattle.serde_json.specs.View.{items_view}
use Rattle.ast_json_nodes.specs.declared.read.Unknown.{Unknown}
use Rattle.graphql_ast_json.specs.kinds.ValueJson.{AreValues, AreObjectFields}
use Rattle.graphql_ast_json.proofs.value.write.+value.Given as goal

abbrev pub invariant-write_items-loop-item : goal.invariant-write_items-loop-item
invariant-write_items-loop-item l = (unknown : Unknown) → AreValues unknown (value_trees (take l.item-index l.items)) (items_view l.values.items)

abbrev pub invariant-write_fields-loop-field : goal.invariant-write_fields-loop-field
invariant-write_fields-loop-field l = (unknown : Unknown) → AreObjectFields unknown (object_field_trees (take l.field-index l.fields)) (items_view l.list.items)
