-- How large values are, so that what is within one is smaller.
use Rattle.std.proofs.Common.{◌≡◌, ◌∙◌, ap, ℕ, zero, suc, ◌+◌, ◌<◌, List, [], ◌∷◌, length, get_or, arith, Vec, Global}
use Rattle.graphql_base.specs.declared.name.Name.{Name}
use Rattle.graphql_base.specs.declared.node.Node.{Node}
use Rattle.graphql_base.specs.Node.{node_value}
use Rattle.graphql_values.specs.kinds.Values.{ValueTree, ValueTrees, ObjectFieldTrees, list_value, object_value, no_values, more_values, no_fields, more_fields}
use Rattle.graphql_values.specs.trees.ValueTrees.{value_tree, value_trees, object_field_trees}
use Rattle.graphql_values.specs.declared.value.Value.{Value}
use Rattle.graphql_values.specs.declared.value.Value as value
use Rattle.graphql_values.proofs.trees.ListAndObjectTrees.{list_tree, object_tree}

abbrev mutual
  pub value_size : ValueTree → ℕ
  value_size (list_value items) = suc (values_size items)
  value_size (object_value fields) = suc (fields_size fields)
  value_size value = 1

  pub values_size : ValueTrees → ℕ
  values_size no_values = 0
  values_size (more_values value more) = value_size value + 2 + values_size more

  pub fields_size : ObjectFieldTrees → ℕ
  fields_size no_fields = 0
  fields_size (more_fields name value more) = value_size value + 3 + fields_size more

pub item_size : (items : List (Node Value)) (i : ℕ) (item : Node Value) → i < length items → item ≡ get_or items i item →
    value_size (value_tree (node_value item)) + 1 < values_size (value_trees items)
item_size [] i item below is = absurd (omega arith)
item_size (x ∷ xs) zero item below is =
    let same : value_size (value_tree (node_value item)) ≡ value_size (value_tree (node_value x)) = ap (λ n. value_size (value_tree (node_value n))) is in
    omega arith
item_size (x ∷ xs) (suc i) item below is = omega (arith, item_size xs i item (omega arith) is)

pub field_size : (fields : List (Name × Node Value)) (i : ℕ) (field : Name × Node Value) → i < length fields → field ≡ get_or fields i field →
    value_size (value_tree (node_value field.1)) + 2 < fields_size (object_field_trees fields)
field_size [] i field below is = absurd (omega arith)
field_size (x ∷ xs) zero field below is =
    let same : value_size (value_tree (node_value field.1)) ≡ value_size (value_tree (node_value x.1)) =
    ap (λ n. value_size (value_tree (node_value n.1))) is in
    omega arith
field_size (x ∷ xs) (suc i) field below is = omega (arith, field_size xs i field (omega arith) is)

pub list_size : (v : Value) (items : Vec (Node Value) Global) (all : List (Node Value)) → v ≡ value.List items → all ≡ items.items →
    values_size (value_trees all) < value_size (value_tree v)
list_size v items all is same =
    let outer : value_size (value_tree v) ≡ suc (values_size (value_trees items.items)) = ap value_size (ap value_tree is ∙ list_tree items) in
    let inner : values_size (value_trees all) ≡ values_size (value_trees items.items) = ap (λ l. values_size (value_trees l)) same in
    omega arith

pub object_size : (v : Value) (fields : Vec (Name × Node Value) Global) (all : List (Name × Node Value)) → v ≡ value.Object fields → all ≡ fields.items →
    fields_size (object_field_trees all) < value_size (value_tree v)
object_size v fields all is same =
    let outer : value_size (value_tree v) ≡ suc (fields_size (object_field_trees fields.items)) = ap value_size (ap value_tree is ∙ object_tree fields) in
    let inner : fields_size (object_field_trees all) ≡ fields_size (object_field_trees fields.items) = ap (λ l. fields_size (object_field_trees l)) same in
    omega arith

pub ruleset within_steps = (list_size, object_size)
