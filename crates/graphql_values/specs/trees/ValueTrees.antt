-- The tree that a value of the code stands for, and what a clone of a value keeps.
use Rattle.std.specs.Prelude.{◌≡◌, ⊤, List, [], ◌∷◌, map, Option, option_copied, string_bytes}
use Rattle.std.specs.Borrow.{Bor}
use Rattle.std.specs.Option.{option_map}
use Rattle.graphql_base.specs.declared.name.Name.{Name}
use Rattle.graphql_base.specs.declared.node.Node.{Node}
use Rattle.graphql_base.specs.Node.{node_value}
use Rattle.graphql_values.specs.kinds.Values.{Constness, Const, NonConst, ValueTree, null_value, enum_value, variable, string_value}
use Rattle.graphql_values.specs.kinds.Values.{float_value, int_value, boolean_value, list_value, object_value, ValueTrees, no_values}
use Rattle.graphql_values.specs.kinds.Values.{more_values, ObjectFieldTrees, no_fields, more_fields}
use Rattle.graphql_text.specs.trees.Leaves.{name_tree}
use Rattle.graphql_values.specs.trees.Literals.{int_tree, float_tree, string_tree}
use Rattle.graphql_values.specs.declared.constness.Constness as code
use Rattle.graphql_values.specs.declared.constness.Constness.TheVariants as variant
use Rattle.graphql_values.specs.declared.value.Value.{Value, Value-F, fold-Value, out-Value}

abbrev pub constness_of : code.Constness → Constness
constness_of variant.Const = Const
constness_of variant.NonConst = NonConst

-- the items of a list and the fields of an object, of which each is a tree already
abbrev pub items_of : List (Node ValueTree) → ValueTrees
items_of [] = no_values
items_of (node ∷ nodes) = more_values (node_value node) (items_of nodes)

abbrev pub fields_of : List (Name × Node ValueTree) → ObjectFieldTrees
fields_of [] = no_fields
fields_of (field ∷ fields) = more_fields (name_tree field.0) (node_value field.1) (fields_of fields)

-- one level of a value, of which each part is a tree already
abbrev pub value_tree_step : Value-F ValueTree → ValueTree
value_tree_step Value-F.Null = null_value
value_tree_step (Value-F.Enum name) = enum_value (name_tree name)
value_tree_step (Value-F.Variable name) = variable (name_tree name)
value_tree_step (Value-F.String string) = string_value (string_tree string)
value_tree_step (Value-F.Float float) = float_value (float_tree float)
value_tree_step (Value-F.Int int) = int_value (int_tree int)
value_tree_step (Value-F.Boolean boolean) = boolean_value boolean
value_tree_step (Value-F.List items) = list_value (items_of items.items)
value_tree_step (Value-F.Object fields) = object_value (fields_of fields.items)

-- The tree of a value: all of it but the locations.
abbrev pub value_tree : Value → ValueTree
value_tree = fold-Value ValueTree value_tree_step

-- the trees of the items of a list and of the fields of an object
abbrev pub node_value_tree : Node Value → Node ValueTree
node_value_tree node = record { value = value_tree node.value; location = node.location }

abbrev pub value_trees : List (Node Value) → ValueTrees
value_trees nodes = items_of (map node_value_tree nodes)

abbrev pub object_field_trees : List (Name × Node Value) → ObjectFieldTrees
object_field_trees fields = fields_of (map (λ field. (field.0, node_value_tree field.1)) fields)

-- the tree of a default value, if there is one
abbrev pub default_value_tree : Option (Bor (Node Value)) → Option ValueTree
default_value_tree value = option_map (λ node. value_tree (node_value node)) (option_copied value)

-- A clone is the same but for the memory of its text or list: it has the very names and nodes, with their locations.
abbrev pub IsLevelCloneOf : Value-F Value → Value-F Value → Type 0
IsLevelCloneOf Value-F.Null Value-F.Null = ⊤
IsLevelCloneOf (Value-F.Enum name) (Value-F.Enum copy) = copy ≡ name
IsLevelCloneOf (Value-F.Variable name) (Value-F.Variable copy) = copy ≡ name
IsLevelCloneOf (Value-F.String string) (Value-F.String copy) = string_bytes copy ≡ string_bytes string
IsLevelCloneOf (Value-F.Float float) (Value-F.Float copy) = copy ≡ float
IsLevelCloneOf (Value-F.Int int) (Value-F.Int copy) = copy ≡ int
IsLevelCloneOf (Value-F.Boolean boolean) (Value-F.Boolean copy) = copy ≡ boolean
IsLevelCloneOf (Value-F.List items) (Value-F.List copy) = copy.items ≡ items.items
IsLevelCloneOf (Value-F.Object fields) (Value-F.Object copy) = copy.items ≡ fields.items
IsLevelCloneOf value copy = ⊥

abbrev pub IsCloneOf : Value → Value → Type 0
IsCloneOf value copy = IsLevelCloneOf (out-Value value) (out-Value copy)
