use Rattle.std.proofs.Common.{◌+◌}
use Rattle.graphql_base.specs.Node.{node_value}
use Rattle.graphql_values.specs.trees.ValueTrees.{object_field_trees, value_tree, value_trees}
use Rattle.graphql_visit.specs.NodeRefs.{object_field_tree}
use Rattle.graphql_visit.proofs.ValueSizes.{fields_size, value_size, values_size}
use Rattle.graphql_rewrite.specs.kinds.Values.{rewritten_object_field, rewritten_value}
use Rattle.graphql_rewrite.proofs.Lists.{IsMadeUpTo}
use Rattle.graphql_rewrite.proofs.values.+values.Given as goal

abbrev pub invariant-rebuild_items-loop-index : goal.invariant-rebuild_items-loop-index
invariant-rebuild_items-loop-index g l =
    IsMadeUpTo (λ node. value_tree (node_value node)) (rewritten_value (g.R.Rewriter.rewriting l.rewriter)) l.items l.index l.made

abbrev pub invariant-rebuild_object_fields-loop-index : goal.invariant-rebuild_object_fields-loop-index
invariant-rebuild_object_fields-loop-index g l =
    IsMadeUpTo object_field_tree (rewritten_object_field (g.R.Rewriter.rewriting l.rewriter)) l.fields l.index l.made

abbrev pub decreases-rebuild_value_node : goal.decreases-rebuild_value_node
decreases-rebuild_value_node g l = value_size (value_tree (node_value l.node.now)) + 1

abbrev pub decreases-rebuild_within : goal.decreases-rebuild_within
decreases-rebuild_within g l = value_size (value_tree l.value.now)

abbrev pub decreases-rebuild_items : goal.decreases-rebuild_items
decreases-rebuild_items g l = values_size (value_trees l.items.now)

abbrev pub decreases-rebuild_object_fields : goal.decreases-rebuild_object_fields
decreases-rebuild_object_fields g l = fields_size (object_field_trees l.fields.now)

abbrev pub decreases-rebuild_object_field : goal.decreases-rebuild_object_field
decreases-rebuild_object_field g l = value_size (value_tree (node_value l.field.now.1)) + 2
