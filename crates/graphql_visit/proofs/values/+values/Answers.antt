use Rattle.std.proofs.Common.{rules, ◌+◌, ◌<◌, refl, subst}
use Rattle.graphql_base.specs.Node.{node_value}
use Rattle.graphql_values.specs.trees.ValueTrees.{object_field_trees, value_tree}
use Rattle.graphql_visit.specs.NodeRefs.{object_field_tree}
use Rattle.graphql_visit.specs.NodeTrees.{ObjectField}
use Rattle.graphql_visit.specs.Visits.{one}
use Rattle.graphql_visit.specs.Walks.{Walks}
use Rattle.graphql_visit.specs.kinds.Values.{object_field_visited, value_visited}
use Rattle.graphql_visit.proofs.Steps.{ended_within, loop_on, walked_through}
use Rattle.graphql_visit.proofs.ValueSizes.{field_size, fields_size, value_size}
use Rattle.graphql_visit.proofs.WithinValues.{leaf_walked}
use Rattle.graphql_visit.proofs.values.+values.Goals as goal

pub walk_items-loop-item-preserved : goal.walk_items-loop-item-preserved
walk_items-loop-item-preserved g t c answer end left =
    c.loop-item.invariant answer end
    (loop_on g.V.Visitor.enters g.V.Visitor.leaves value_visited (λ node. value_tree (node_value node)) c.args.items.now c.loop-item.item-index
    c.item-item.result c.loop-item.visitor c.walk_value.new.visitor c.walk_value.result _ c.loop-item-test.true c.item-item.is
    c.walk_value.ensures c.in_ok-walk_value.was answer end left)

pub walk_object_field-returns-in_err-walk_value : goal.walk_object_field-returns-in_err-walk_value
walk_object_field-returns-in_err-walk_value g t c =
    let field = object_field_tree c.args.field.now in
    subst (λ answer. Walks g.V.Visitor.enters g.V.Visitor.leaves (one object_field_visited field) c.args.visitor.now answer c.walk_value.new.visitor)
    (search rules)
    (ended_within g.V.Visitor.enters g.V.Visitor.leaves (ObjectField field.0 field.1) (ObjectField field.0 field.1) (one value_visited field.1)
    c.args.visitor.now c.enter.new.visitor c.walk_value.new.visitor c.enter.result c.walk_value.result _ refl c.enter.ensures (search rules)
    c.walk_value.ensures c.in_err-walk_value.was)

pub walk_object_field-returns : goal.walk_object_field-returns
walk_object_field-returns g t c =
    let field = object_field_tree c.args.field.now in
    walked_through g.V.Visitor.enters g.V.Visitor.leaves (ObjectField field.0 field.1) (ObjectField field.0 field.1) (one value_visited field.1)
    c.args.visitor.now c.enter.new.visitor c.walk_value.new.visitor c.leave.new.visitor c.enter.result c.walk_value.result c.leave.result _ refl
    c.enter.ensures (search rules) c.walk_value.ensures c.in_ok-walk_value.was c.leave.ensures

pub walk_object_fields-walk_object_field-requires : goal.walk_object_fields-walk_object_field-requires
walk_object_fields-walk_object_field-requires g t c κs within =
    let smaller : value_size (value_tree (node_value c.field-item.result.1)) + 2 < fields_size (object_field_trees c.args.fields.now) =
    field_size c.args.fields.now c.loop-field.field-index c.field-item.result c.loop-field-test.true c.field-item.is in
    search rules

pub walk_object_fields-loop-field-preserved : goal.walk_object_fields-loop-field-preserved
walk_object_fields-loop-field-preserved g t c answer end left =
    c.loop-field.invariant answer end
    (loop_on g.V.Visitor.enters g.V.Visitor.leaves object_field_visited object_field_tree c.args.fields.now c.loop-field.field-index
    c.field-item.result c.loop-field.visitor c.walk_object_field.new.visitor c.walk_object_field.result _ c.loop-field-test.true c.field-item.is
    c.walk_object_field.ensures c.in_ok-walk_object_field.was answer end left)

pub walk_within_value-returns-in_default : goal.walk_within_value-returns-in_default
walk_within_value-returns-in_default g t c =
    leaf_walked g.V.Visitor.enters g.V.Visitor.leaves c.args.value.now c.args.visitor.now c.in_default.not-List c.in_default.not-Object
