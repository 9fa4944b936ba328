-- The trees of a list and of an object.
use Rattle.std.proofs.Common.{◌≡◌, ◌∙◌, ap, Vec, Global}
use Rattle.graphql_base.specs.declared.name.Name.{Name}
use Rattle.graphql_base.specs.declared.node.Node.{Node}
use Rattle.graphql_values.specs.kinds.Values.{ValueTree, list_value, object_value}
use Rattle.graphql_values.specs.trees.ValueTrees.{value_tree, value_tree_step, value_trees, object_field_trees}
use Rattle.graphql_values.specs.declared.value.Value.{Value, Value-F, List, Object, map-Value, fold_out-Value}
use Rattle.graphql_values.specs.declared.value.Value.TheVariants.{outs-List, outs-Object}

abbrev of_level : Value-F Value → ValueTree
of_level level = value_tree_step (map-Value Value ValueTree value_tree level)

pub list_tree : (items : Vec (Node Value) Global) → value_tree (List items) ≡ list_value (value_trees items.items)
list_tree items = fold_out-Value ValueTree value_tree_step (List items) ∙ ap of_level (outs-List items)

pub object_tree : (fields : Vec (Name × Node Value) Global) → value_tree (Object fields) ≡ object_value (object_field_trees fields.items)
object_tree fields = fold_out-Value ValueTree value_tree_step (Object fields) ∙ ap of_level (outs-Object fields)
