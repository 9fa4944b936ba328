use Rattle.std.proofs.Common.{◌≡◌, drop}
use Rattle.graphql_values.specs.kinds.Values.{values_obey, object_fields_obey}
use Rattle.graphql_values.specs.trees.ValueTrees.{constness_of, value_trees, object_field_trees}
use Rattle.graphql_values.proofs.value.well_formed.+value_is_well_formed.Given as goal

abbrev pub invariant-are_items_well_formed-loop-item : goal.invariant-are_items_well_formed-loop-item
invariant-are_items_well_formed-loop-item l =
    values_obey (constness_of l.constness) (value_trees (drop l.item-index l.items))
    ≡ values_obey (constness_of l.constness) (value_trees l.items)

abbrev pub invariant-are_fields_well_formed-loop-field : goal.invariant-are_fields_well_formed-loop-field
invariant-are_fields_well_formed-loop-field l =
    object_fields_obey (constness_of l.constness) (object_field_trees (drop l.field-index l.fields))
    ≡ object_fields_obey (constness_of l.constness) (object_field_trees l.fields)
