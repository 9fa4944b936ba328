use Rattle.std.proofs.Common.{drop, map, ◌+◌}
use Rattle.graphql_base.specs.Node.{node_value}
use Rattle.graphql_values.specs.trees.ValueTrees.{object_field_trees, value_tree, value_trees}
use Rattle.graphql_visit.specs.NodeRefs.{object_field_tree}
use Rattle.graphql_visit.specs.Visits.{each}
use Rattle.graphql_visit.specs.Walks.{Walks}
use Rattle.graphql_visit.specs.kinds.Values.{object_field_visited, object_fields_visits, value_visited, values_visits}
use Rattle.graphql_visit.proofs.ValueSizes.{fields_size, value_size, values_size}
use Rattle.graphql_visit.proofs.values.+values.Given as goal

-- what walks over the items that are left walks over all
abbrev pub invariant-walk_items-loop-item : goal.invariant-walk_items-loop-item
invariant-walk_items-loop-item g l = (answer : _) (t : _) →
    Walks g.V.Visitor.enters g.V.Visitor.leaves
    (each value_visited (map (λ item. value_tree (node_value item)) (drop l.item-index l.items))) l.visitor answer t →
    Walks g.V.Visitor.enters g.V.Visitor.leaves (values_visits (value_trees l.items)) l.fn.visitor answer t

-- the same of fields
abbrev pub invariant-walk_object_fields-loop-field : goal.invariant-walk_object_fields-loop-field
invariant-walk_object_fields-loop-field g l = (answer : _) (t : _) →
    Walks g.V.Visitor.enters g.V.Visitor.leaves (each object_field_visited (map object_field_tree (drop l.field-index l.fields))) l.visitor answer t →
    Walks g.V.Visitor.enters g.V.Visitor.leaves (object_fields_visits (object_field_trees l.fields)) l.fn.visitor answer t

abbrev pub decreases-walk_value : goal.decreases-walk_value
decreases-walk_value g l = value_size (value_tree (node_value l.node.now)) + 1

abbrev pub decreases-walk_within_value : goal.decreases-walk_within_value
decreases-walk_within_value g l = value_size (value_tree l.value.now)

abbrev pub decreases-walk_items : goal.decreases-walk_items
decreases-walk_items g l = values_size (value_trees l.items.now)

abbrev pub decreases-walk_object_fields : goal.decreases-walk_object_fields
decreases-walk_object_fields g l = fields_size (object_field_trees l.fields.now)

abbrev pub decreases-walk_object_field : goal.decreases-walk_object_field
decreases-walk_object_field g l = value_size (value_tree (node_value l.field.now.1)) + 2
