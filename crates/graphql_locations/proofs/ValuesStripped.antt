-- Of kinds.Values: values of the code that are made again without locations.
use Rattle.std.proofs.Common.{◌≡◌, ℕ, ◌≤◌, List, [], ◌∷◌, length, map, refl, ap, sym, ◌∙◌, Vec, Global}
use Rattle.std.specs.Prelude.{String, string_bytes}
use Rattle.std.proofs.lemmas.List.Folds.{flat_map-map}
use Rattle.graphql_base.specs.declared.name.Name.{Name}
use Rattle.graphql_base.specs.declared.node.Node.{Node}
use Rattle.graphql_base.specs.declared.span.SourceSpan.{SourceSpan}
use Rattle.graphql_base.specs.Node.{node_value}
use Rattle.graphql_text.specs.lexical.Literals.{NameText}
use Rattle.graphql_text.specs.trees.Leaves.{name_tree}
use Rattle.graphql_values.proofs.layout.ValueShapes.{value_tree_list, value_tree_object}
use Rattle.graphql_values.specs.declared.value.Value.{Value, Value-F, out-Value, map-Value, fold_out-Value}
use Rattle.graphql_values.specs.declared.value.Value.TheVariants as value
use Rattle.graphql_values.specs.kinds.Values.{ObjectFieldTrees, ValueTree, ValueTrees, list_value, more_fields, more_values, no_fields, no_values}
use Rattle.graphql_values.specs.kinds.Values.{object_value, string_value}
use Rattle.graphql_values.specs.trees.Literals.{string_tree}
use Rattle.graphql_values.specs.trees.ValueTrees.{object_field_trees, value_tree, value_tree_step, value_trees}
use Rattle.graphql_locations.specs.Leaves.{list_locations, named_node_locations, node_locations}
use Rattle.graphql_locations.specs.kinds.Values.{told, value_locations, value_locations_step}
use Rattle.graphql_locations.proofs.PartsStripped.{IsMadeUpTo, all_made, same_string}

-- LEVELS

abbrev value_level : Value-F Value → List SourceSpan
value_level level = value_locations_step (map-Value Value (List SourceSpan) value_locations level)

-- a node of whose value they are told
abbrev told_node : Node Value → Node (List SourceSpan)
told_node node = record { value = value_locations node.value; location = node.location }

told_at : (v : Value) → value_locations v ≡ value_level (out-Value v)
told_at = fold_out-Value (List SourceSpan) value_locations_step

-- STRINGS

string_at : (string : String Global) → value_tree (value.String string) ≡ string_value (string_tree string)
string_at string =
    fold_out-Value ValueTree value_tree_step (value.String string)
    ∙ ap (λ level. value_tree_step (map-Value Value ValueTree value_tree level)) (value.outs-String string)

pub string_made : (v : Value) (old made : String Global) → v ≡ value.String old → string_bytes made ≡ string_bytes old →
    value_tree (value.String made) ≡ value_tree v
string_made v old made is same =
    string_at made ∙ ap string_value (same_string made old same) ∙ sym (ap value_tree is ∙ string_at old)

-- LISTS AND OBJECTS

abbrev item_tree : Node Value → ValueTree
item_tree node = value_tree (node_value node)

abbrev pub field_tree : Name × Node Value → NameText × ValueTree
field_tree field = (name_tree field.0, item_tree field.1)

abbrev values_of : List ValueTree → ValueTrees
values_of [] = no_values
values_of (tree ∷ trees) = more_values tree (values_of trees)

abbrev fields_of : List (NameText × ValueTree) → ObjectFieldTrees
fields_of [] = no_fields
fields_of (tree ∷ trees) = more_fields tree.0 tree.1 (fields_of trees)

items_are : (items : List (Node Value)) → value_trees items ≡ values_of (map item_tree items)
items_are [] = refl
items_are (item ∷ items) = ap (more_values (item_tree item)) (items_are items)

fields_are : (fields : List (Name × Node Value)) → object_field_trees fields ≡ fields_of (map field_tree fields)
fields_are [] = refl
fields_are (field ∷ fields) = ap (more_fields (field_tree field).0 (field_tree field).1) (fields_are fields)

pub items_made : (items : List (Node Value)) (i : ℕ) (made : List (Node Value)) → length items ≤ i → IsMadeUpTo item_tree items i made →
    value_trees made ≡ value_trees items
items_made items i made past so_far =
    items_are made ∙ ap values_of (all_made item_tree items i made past so_far) ∙ sym (items_are items)

pub fields_made : (fields : List (Name × Node Value)) (i : ℕ) (made : List (Name × Node Value)) → length fields ≤ i → IsMadeUpTo field_tree fields i made →
    object_field_trees made ≡ object_field_trees fields
fields_made fields i made past so_far =
    fields_are made ∙ ap fields_of (all_made field_tree fields i made past so_far) ∙ sym (fields_are fields)

pub list_made : (v : Value) (old made : Vec (Node Value) Global) (all : List (Node Value)) → v ≡ value.List old → all ≡ old.items →
    value_trees made.items ≡ value_trees all → value_tree (value.List made) ≡ value_tree v
list_made v old made all is at same =
    value_tree_list made ∙ ap list_value (same ∙ ap value_trees at) ∙ sym (ap value_tree is ∙ value_tree_list old)

pub list_plain : (made : Vec (Node Value) Global) → list_locations (node_locations value_locations) made.items ≡ [] → value_locations (value.List made) ≡ []
list_plain made none =
    told_at (value.List made) ∙ ap value_level (value.outs-List made) ∙ flat_map-map (node_locations told) told_node made.items ∙ none

pub object_made : (v : Value) (old made : Vec (Name × Node Value) Global) (all : List (Name × Node Value)) → v ≡ value.Object old → all ≡ old.items →
    object_field_trees made.items ≡ object_field_trees all → value_tree (value.Object made) ≡ value_tree v
object_made v old made all is at same =
    value_tree_object made ∙ ap object_value (same ∙ ap object_field_trees at) ∙ sym (ap value_tree is ∙ value_tree_object old)

pub object_plain : (made : Vec (Name × Node Value) Global) → list_locations (named_node_locations value_locations) made.items ≡ [] →
    value_locations (value.Object made) ≡ []
object_plain made none =
    told_at (value.Object made) ∙ ap value_level (value.outs-Object made)
    ∙ flat_map-map (named_node_locations told) (λ (field : Name × Node Value). (field.0, told_node field.1)) made.items ∙ none

pub ruleset value_steps = (list_made, list_plain, object_made, object_plain)
