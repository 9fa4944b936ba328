use Rattle.std.proofs.Common.{◌≡◌, []}
use Rattle.graphql_base.specs.Node.{node_value}
use Rattle.graphql_values.specs.trees.ValueTrees.{value_tree}
use Rattle.graphql_locations.specs.Leaves.{list_locations, named_node_locations, node_locations}
use Rattle.graphql_locations.specs.kinds.Values.{value_locations}
use Rattle.graphql_locations.proofs.PartsStripped.{IsMadeUpTo}
use Rattle.graphql_locations.proofs.ValuesStripped.{field_tree}
use Rattle.graphql_locations.proofs.values.+values.Given as goal

abbrev pub invariant-strip_items-loop-item : goal.invariant-strip_items-loop-item
invariant-strip_items-loop-item l = record {
  trees : IsMadeUpTo (λ node. value_tree (node_value node)) l.items l.item-index l.made.items;
  locations : list_locations (node_locations value_locations) l.made.items ≡ [];
}

abbrev pub invariant-strip_object_fields-loop-field : goal.invariant-strip_object_fields-loop-field
invariant-strip_object_fields-loop-field l = record {
  trees : IsMadeUpTo field_tree l.fields l.field-index l.made.items;
  locations : list_locations (named_node_locations value_locations) l.made.items ≡ [];
}
