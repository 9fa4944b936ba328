use Rattle.std.proofs.Common.{take}
use Rattle.graphql_values.specs.trees.ValueTrees.{object_field_trees, value_trees}
use Rattle.ast_json_nodes.specs.declared.read.Unknown.{Unknown}
use Rattle.graphql_ast_json.specs.kinds.ValueJson.{AreObjectFields, AreValues}
use Rattle.json_text.proofs.ArrayTexts.{HasItems}
use Rattle.ast_json_text.proofs.value.+value.Given as goal

abbrev pub invariant-write_items-loop-item : goal.invariant-write_items-loop-item
invariant-write_items-loop-item g l =
    HasItems g.O.Target.wrote l.fn.out l.out l.is_behind
    (λ jsons. (unknown : Unknown) → AreValues unknown (value_trees (take l.item-index l.items)) jsons)

abbrev pub invariant-write_fields-loop-field : goal.invariant-write_fields-loop-field
invariant-write_fields-loop-field g l =
    HasItems g.O.Target.wrote l.fn.out l.out l.is_behind
    (λ jsons. (unknown : Unknown) → AreObjectFields unknown (object_field_trees (take l.field-index l.fields)) jsons)
