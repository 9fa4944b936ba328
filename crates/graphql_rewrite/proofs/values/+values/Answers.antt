use Rattle.std.proofs.Common.{rules, ◌+◌, ◌<◌}
use Rattle.graphql_base.specs.Node.{node_value}
use Rattle.graphql_values.specs.trees.ValueTrees.{object_field_trees, value_tree}
use Rattle.graphql_visit.proofs.ValueSizes.{field_size, fields_size, value_size}
use Rattle.graphql_rewrite.proofs.values.+values.Goals as goal

pub rebuild_object_fields-rebuild_object_field-requires : goal.rebuild_object_fields-rebuild_object_field-requires
rebuild_object_fields-rebuild_object_field-requires g t c κs within =
    let smaller : value_size (value_tree (node_value c.index-fields-index.result.1)) + 2 < fields_size (object_field_trees c.args.fields.now) =
    field_size c.args.fields.now c.loop-index.index c.index-fields-index.result c.loop-index-test.true c.index-fields-index.is in
    search rules
