-- Of kinds.Values: lists are made item by item and objects field by field, and what is made within a value of the code.
use Rattle.std.proofs.Common.{◌≡◌, ℕ, ◌≤◌, List, [], ◌∷◌, length, map, Option, Vec, Global, refl, ap, sym, ◌∙◌}
use Rattle.graphql_base.specs.declared.name.Name.{Name}
use Rattle.graphql_base.specs.declared.node.Node.{Node}
use Rattle.graphql_base.specs.Node.{node_value}
use Rattle.graphql_text.specs.lexical.Literals.{NameText}
use Rattle.graphql_values.specs.declared.value.Value.{Value, Value-F, out-Value, roll-Value, roll-out-Value, fold-roll-Value}
use Rattle.graphql_values.specs.declared.value.Value.TheVariants.{rolls-List, rolls-Object}
use Rattle.graphql_values.specs.declared.value.Value as value
use Rattle.graphql_values.specs.trees.ValueTrees.{object_field_trees, value_tree, value_tree_step, value_trees}
use Rattle.graphql_values.specs.kinds.Values.{ValueTree, ValueTrees, list_value, object_value, no_values, more_values}
use Rattle.graphql_values.specs.kinds.Values.{ObjectFieldTrees, no_fields, more_fields}
use Rattle.graphql_values.proofs.trees.ListAndObjectTrees.{list_tree, object_tree}
use Rattle.graphql_visit.specs.NodeRefs.{object_field_tree}
use Rattle.graphql_rewrite.specs.Outcomes.{outcome}
use Rattle.graphql_rewrite.specs.Rewritings.{Rewriting}
use Rattle.graphql_rewrite.specs.kinds.Values.{rewritten_object_field, rewritten_object_fields, rewritten_value, rewritten_values, rewritten_within}
use Rattle.graphql_rewrite.proofs.Lists.{IsMadeUpTo, all_made, outcome_within}

abbrev item_tree : Node Value → ValueTree
item_tree node = value_tree (node_value node)

abbrev values_of : List ValueTree → ValueTrees
values_of [] = no_values
values_of (tree ∷ trees) = more_values tree (values_of trees)

abbrev fields_of : List (NameText × ValueTree) → ObjectFieldTrees
fields_of [] = no_fields
fields_of (tree ∷ trees) = more_fields tree.0 tree.1 (fields_of trees)

items_are : (items : List (Node Value)) → value_trees items ≡ values_of (map item_tree items)
items_are [] = refl
items_are (item ∷ items) = ap (more_values (item_tree item)) (items_are items)

fields_are : (fields : List (Name × Node Value)) → object_field_trees fields ≡ fields_of (map object_field_tree fields)
fields_are [] = refl
fields_are (field ∷ fields) = ap (more_fields (object_field_tree field).0 (object_field_tree field).1) (fields_are fields)

-- a function that keeps the tree which a value of the code comes to
pub stays_at : (f : ValueTree → ValueTree) (v : Value) (tree : ValueTree) → value_tree v ≡ tree → f tree ≡ tree → f (value_tree v) ≡ value_tree v
stays_at f v tree is same = ap f is ∙ same ∙ sym is

module _ (f : Rewriting) where
  each_value : (trees : List ValueTree) → values_of (map (rewritten_value f) trees) ≡ rewritten_values f (values_of trees)
  each_value [] = refl
  each_value (tree ∷ trees) = ap (more_values (rewritten_value f tree)) (each_value trees)

  each_field : (trees : List (NameText × ValueTree)) →
      fields_of (map (rewritten_object_field f) trees) ≡ rewritten_object_fields f (fields_of trees)
  each_field [] = refl
  each_field (tree ∷ trees) = ap (more_fields tree.0 (rewritten_value f tree.1)) (each_field trees)

  pub items_made : (items : List (Node Value)) (i : ℕ) (made : Option (Vec (Node Value) Global)) → length items ≤ i →
      IsMadeUpTo item_tree (rewritten_value f) items i made →
      outcome (λ all. value_trees all.items) (value_trees items) made ≡ rewritten_values f (value_trees items)
  items_made items i made past so_far =
      outcome_within item_tree values_of value_trees items_are items made
      ∙ ap values_of (all_made item_tree (rewritten_value f) items i made past so_far)
      ∙ each_value (map item_tree items) ∙ ap (rewritten_values f) (sym (items_are items))

  pub fields_made : (fields : List (Name × Node Value)) (i : ℕ) (made : Option (Vec (Name × Node Value) Global)) → length fields ≤ i →
      IsMadeUpTo object_field_tree (rewritten_object_field f) fields i made →
      outcome (λ all. object_field_trees all.items) (object_field_trees fields) made ≡ rewritten_object_fields f (object_field_trees fields)
  fields_made fields i made past so_far =
      outcome_within object_field_tree fields_of object_field_trees fields_are fields made
      ∙ ap fields_of (all_made object_field_tree (rewritten_object_field f) fields i made past so_far)
      ∙ each_field (map object_field_tree fields) ∙ ap (rewritten_object_fields f) (sym (fields_are fields))

  -- A LIST, AN OBJECT, AND ANY OTHER VALUE

  pub list_made : (v : Value) (items made : Vec (Node Value) Global) (all : List (Node Value)) → v ≡ value.List items → all ≡ items.items →
      value_trees made.items ≡ rewritten_values f (value_trees all) → value_tree (value.List made) ≡ rewritten_within f (value_tree v)
  list_made v items made all is same h =
      list_tree made ∙ ap list_value (h ∙ ap (λ l. rewritten_values f (value_trees l)) same)
      ∙ sym (ap (rewritten_within f) (ap value_tree is ∙ list_tree items))

  pub list_stays : (v : Value) (items : Vec (Node Value) Global) (all : List (Node Value)) → v ≡ value.List items → all ≡ items.items →
      value_trees all ≡ rewritten_values f (value_trees all) → value_tree v ≡ rewritten_within f (value_tree v)
  list_stays v items all is same h =
      let tree : value_tree v ≡ list_value (value_trees items.items) = ap value_tree is ∙ list_tree items in
      tree ∙ ap list_value (ap value_trees (sym same) ∙ h ∙ ap (λ l. rewritten_values f (value_trees l)) same) ∙ sym (ap (rewritten_within f) tree)

  pub object_made : (v : Value) (fields made : Vec (Name × Node Value) Global) (all : List (Name × Node Value)) → v ≡ value.Object fields →
      all ≡ fields.items → object_field_trees made.items ≡ rewritten_object_fields f (object_field_trees all) →
      value_tree (value.Object made) ≡ rewritten_within f (value_tree v)
  object_made v fields made all is same h =
      object_tree made ∙ ap object_value (h ∙ ap (λ l. rewritten_object_fields f (object_field_trees l)) same)
      ∙ sym (ap (rewritten_within f) (ap value_tree is ∙ object_tree fields))

  pub object_stays : (v : Value) (fields : Vec (Name × Node Value) Global) (all : List (Name × Node Value)) → v ≡ value.Object fields →
      all ≡ fields.items → object_field_trees all ≡ rewritten_object_fields f (object_field_trees all) → value_tree v ≡ rewritten_within f (value_tree v)
  object_stays v fields all is same h =
      let tree : value_tree v ≡ object_value (object_field_trees fields.items) = ap value_tree is ∙ object_tree fields in
      tree ∙ ap object_value (ap object_field_trees (sym same) ∙ h ∙ ap (λ l. rewritten_object_fields f (object_field_trees l)) same)
      ∙ sym (ap (rewritten_within f) tree)

  leaf_at : (inside : Value-F Value) → ((items : Vec (Node Value) Global) → roll-Value inside ≡ value.List items → ⊥) →
      ((fields : Vec (Name × Node Value) Global) → roll-Value inside ≡ value.Object fields → ⊥) →
      rewritten_within f (value_tree (roll-Value inside)) ≡ value_tree (roll-Value inside)
  leaf_at Value-F.Null list object = stays_at (rewritten_within f) _ _ (fold-roll-Value ValueTree value_tree_step Value-F.Null) refl
  leaf_at (Value-F.Enum name) list object = stays_at (rewritten_within f) _ _ (fold-roll-Value ValueTree value_tree_step (Value-F.Enum name)) refl
  leaf_at (Value-F.Variable name) list object = stays_at (rewritten_within f) _ _ (fold-roll-Value ValueTree value_tree_step (Value-F.Variable name)) refl
  leaf_at (Value-F.String string) list object = stays_at (rewritten_within f) _ _ (fold-roll-Value ValueTree value_tree_step (Value-F.String string)) refl
  leaf_at (Value-F.Float float) list object = stays_at (rewritten_within f) _ _ (fold-roll-Value ValueTree value_tree_step (Value-F.Float float)) refl
  leaf_at (Value-F.Int int) list object = stays_at (rewritten_within f) _ _ (fold-roll-Value ValueTree value_tree_step (Value-F.Int int)) refl
  leaf_at (Value-F.Boolean boolean) list object = stays_at (rewritten_within f) _ _ (fold-roll-Value ValueTree value_tree_step (Value-F.Boolean boolean)) refl
  leaf_at (Value-F.List items) list object = absurd (list items (rolls-List items))
  leaf_at (Value-F.Object fields) list object = absurd (object fields (rolls-Object fields))

  pub leaf_stays : (v : Value) → ((items : Vec (Node Value) Global) → v ≡ value.List items → ⊥) →
      ((fields : Vec (Name × Node Value) Global) → v ≡ value.Object fields → ⊥) → value_tree v ≡ rewritten_within f (value_tree v)
  leaf_stays v list object =
      let tree : value_tree v ≡ value_tree (roll-Value (out-Value v)) = ap value_tree (sym (roll-out-Value v)) in
      tree ∙ sym (ap (rewritten_within f) tree
      ∙ leaf_at (out-Value v) (λ items is. list items (sym (roll-out-Value v) ∙ is)) (λ fields is. object fields (sym (roll-out-Value v) ∙ is)))

pub ruleset within_steps = (list_made, list_stays, object_made, object_stays)
