use Rattle.std.proofs.Common.{◌≡◌, ◌≤◌, max, drop}
use Rattle.graphql_values.specs.kinds.Values.{values_nesting, object_fields_nesting}
use Rattle.graphql_values.specs.trees.ValueTrees.{value_trees, object_field_trees}
use Rattle.graphql_values.proofs.value.print.+nesting.Given as goal

abbrev pub invariant-find_items_nesting-loop-item : goal.invariant-find_items_nesting-loop-item
invariant-find_items_nesting-loop-item l =
    (1 ≤ l.most) × (max l.most (values_nesting (value_trees (drop l.item-index l.items))) ≡ values_nesting (value_trees l.items))

abbrev pub invariant-find_fields_nesting-loop-field : goal.invariant-find_fields_nesting-loop-field
invariant-find_fields_nesting-loop-field l =
    (1 ≤ l.most)
    × (max l.most (object_fields_nesting (object_field_trees (drop l.field-index l.fields)))
    ≡ object_fields_nesting (object_field_trees l.fields))
