-- Of kinds.Values: lists go item by item and objects field by field, and what is within a value of the code.
use Rattle.std.proofs.Common.{◌≡◌, Result, Ok, List, [], ◌∷◌, map, ControlFlow, refl, sym, ap, ◌∙◌, subst, Vec, Global}
use Rattle.std.specs.Prelude.{⊤}
use Rattle.graphql_base.specs.declared.name.Name.{Name}
use Rattle.graphql_base.specs.declared.node.Node.{Node}
use Rattle.graphql_base.specs.Node.{node_value}
use Rattle.graphql_values.specs.declared.value.Value.{Value, Value-F, out-Value, roll-Value, roll-out-Value, fold-roll-Value}
use Rattle.graphql_values.specs.declared.value.Value.TheVariants.{rolls-List, rolls-Object}
use Rattle.graphql_values.specs.declared.value.Value as value
use Rattle.graphql_values.specs.trees.ValueTrees.{object_field_trees, value_tree, value_tree_step, value_trees}
use Rattle.graphql_values.specs.kinds.Values.{ValueTree}
use Rattle.graphql_values.proofs.trees.ListAndObjectTrees.{list_tree, object_tree}
use Rattle.graphql_visit.specs.NodeRefs.{object_field_tree}
use Rattle.graphql_visit.specs.NodeTrees as node
use Rattle.graphql_visit.specs.NodeTrees.{NodeTree}
use Rattle.graphql_visit.specs.Walks.{Walks}
use Rattle.graphql_visit.specs.declared.visitor.Ended.{Ended}
use Rattle.graphql_visit.specs.declared.visitor.Flow.{Flow}
use Rattle.graphql_visit.specs.Visits.{each, no_visits, one, visit}
use Rattle.graphql_visit.specs.kinds.Values.{object_field_visited, object_fields_visits, value_visited, values_visits, within_value}
use Rattle.graphql_visit.proofs.Steps.{walks_none}

each_item : (items : List (Node Value)) → each value_visited (map (λ item. value_tree (node_value item)) items) ≡ values_visits (value_trees items)
each_item [] = refl
each_item (item ∷ items) =
    ap (visit (node.Value (value_tree (node_value item))) (within_value (value_tree (node_value item)))) (each_item items)

each_field : (fields : List (Name × Node Value)) → each object_field_visited (map object_field_tree fields) ≡ object_fields_visits (object_field_trees fields)
each_field [] = refl
each_field (field ∷ fields) =
    let tree = object_field_tree field in
    ap (visit (node.ObjectField tree.0 tree.1) (one value_visited tree.1)) (each_field fields)

-- nothing is within a value that is no list and no object
leaf_at : (inside : Value-F Value) → ((items : Vec (Node Value) Global) → roll-Value inside ≡ value.List items → ⊥) →
    ((fields : Vec (Name × Node Value) Global) → roll-Value inside ≡ value.Object fields → ⊥) → within_value (value_tree (roll-Value inside)) ≡ no_visits
leaf_at Value-F.Null list object = ap within_value (fold-roll-Value ValueTree value_tree_step Value-F.Null)
leaf_at (Value-F.Enum name) list object = ap within_value (fold-roll-Value ValueTree value_tree_step (Value-F.Enum name))
leaf_at (Value-F.Variable name) list object = ap within_value (fold-roll-Value ValueTree value_tree_step (Value-F.Variable name))
leaf_at (Value-F.String string) list object = ap within_value (fold-roll-Value ValueTree value_tree_step (Value-F.String string))
leaf_at (Value-F.Float float) list object = ap within_value (fold-roll-Value ValueTree value_tree_step (Value-F.Float float))
leaf_at (Value-F.Int int) list object = ap within_value (fold-roll-Value ValueTree value_tree_step (Value-F.Int int))
leaf_at (Value-F.Boolean boolean) list object = ap within_value (fold-roll-Value ValueTree value_tree_step (Value-F.Boolean boolean))
leaf_at (Value-F.List items) list object = absurd (list items (rolls-List items))
leaf_at (Value-F.Object fields) list object = absurd (object fields (rolls-Object fields))

leaf : (v : Value) → ((items : Vec (Node Value) Global) → v ≡ value.List items → ⊥) →
    ((fields : Vec (Name × Node Value) Global) → v ≡ value.Object fields → ⊥) → within_value (value_tree v) ≡ no_visits
leaf v list object =
    ap (λ x. within_value (value_tree x)) (sym (roll-out-Value v))
    ∙ leaf_at (out-Value v) (λ items is. list items (sym (roll-out-Value v) ∙ is)) (λ fields is. object fields (sym (roll-out-Value v) ∙ is))

module _ {S E : Type 0} (enters : NodeTree → S → Result Flow E → S → Type 0) (leaves : NodeTree → S → Result (ControlFlow ⊤ ⊤) E → S → Type 0) where
  pub items_walked : (items : List (Node Value)) (s t : S) (answer : Result ⊤ (Ended E)) →
      Walks enters leaves (each value_visited (map (λ item. value_tree (node_value item)) items)) s answer t →
      Walks enters leaves (values_visits (value_trees items)) s answer t
  items_walked items s t answer = subst (λ visits. Walks enters leaves visits s answer t) (each_item items)

  pub fields_walked : (fields : List (Name × Node Value)) (s t : S) (answer : Result ⊤ (Ended E)) →
      Walks enters leaves (each object_field_visited (map object_field_tree fields)) s answer t →
      Walks enters leaves (object_fields_visits (object_field_trees fields)) s answer t
  fields_walked fields s t answer = subst (λ visits. Walks enters leaves visits s answer t) (each_field fields)

  pub list_walked : (v : Value) (items : Vec (Node Value) Global) (all : List (Node Value)) (s t : S) (answer : Result ⊤ (Ended E)) →
      v ≡ value.List items → all ≡ items.items → Walks enters leaves (values_visits (value_trees all)) s answer t →
      Walks enters leaves (within_value (value_tree v)) s answer t
  list_walked v items all s t answer is same walked =
      subst (λ tree. Walks enters leaves (within_value tree) s answer t) (sym (ap value_tree is ∙ list_tree items))
      (subst (λ l. Walks enters leaves (values_visits (value_trees l)) s answer t) same walked)

  pub object_walked : (v : Value) (fields : Vec (Name × Node Value) Global) (all : List (Name × Node Value)) (s t : S) (answer : Result ⊤ (Ended E)) →
      v ≡ value.Object fields → all ≡ fields.items → Walks enters leaves (object_fields_visits (object_field_trees all)) s answer t →
      Walks enters leaves (within_value (value_tree v)) s answer t
  object_walked v fields all s t answer is same walked =
      subst (λ tree. Walks enters leaves (within_value tree) s answer t) (sym (ap value_tree is ∙ object_tree fields))
      (subst (λ l. Walks enters leaves (object_fields_visits (object_field_trees l)) s answer t) same walked)

  pub leaf_walked : (v : Value) (s : S) → ((items : Vec (Node Value) Global) → v ≡ value.List items → ⊥) →
      ((fields : Vec (Name × Node Value) Global) → v ≡ value.Object fields → ⊥) → Walks enters leaves (within_value (value_tree v)) s (Ok tt) s
  leaf_walked v s list object = subst (λ visits. Walks enters leaves visits s (Ok tt) s) (sym (leaf v list object)) (walks_none enters leaves s)

pub ruleset value_steps = (list_walked, object_walked)
