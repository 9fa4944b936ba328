-- The tree that a type of the code stands for, and its wrapping with the very name, which a clone keeps.
use Rattle.std.specs.Prelude.{◌≡◌, true, false}
use Rattle.graphql_base.specs.declared.name.Name.{Name}
use Rattle.graphql_text.specs.trees.Leaves.{name_tree}
use Rattle.graphql_values.specs.kinds.TypeReferences.{TypeTree, named_type, non_null_named_type, list_type, non_null_list_type}
use Rattle.graphql_values.specs.kinds.Wrappings.{Wrapping, bare, listed}
use Rattle.graphql_values.specs.declared.types.Type.{«Type», Type-F, fold-Type}

-- one level of a type, of which the item is a tree already
abbrev pub type_tree_step : Type-F TypeTree → TypeTree
type_tree_step (Type-F.Named name) = named_type (name_tree name)
type_tree_step (Type-F.NonNullNamed name) = non_null_named_type (name_tree name)
type_tree_step (Type-F.List item) = list_type item.value
type_tree_step (Type-F.NonNullList item) = non_null_list_type item.value

-- The tree of a type: all of it but the locations.
abbrev pub type_tree : «Type» → TypeTree
type_tree = fold-Type TypeTree type_tree_step

-- one level of a type, of which the item is a wrapping already
abbrev pub type_wrapping_step : Type-F (Wrapping Name) → Wrapping Name
type_wrapping_step (Type-F.Named name) = bare false name
type_wrapping_step (Type-F.NonNullNamed name) = bare true name
type_wrapping_step (Type-F.List item) = listed false item.value
type_wrapping_step (Type-F.NonNullList item) = listed true item.value

-- The wrapping of a type around its very name, with the location.
abbrev pub type_wrapping : «Type» → Wrapping Name
type_wrapping = fold-Type (Wrapping Name) type_wrapping_step

-- A clone has the very name, with its location, in the same wrapping.
abbrev pub IsTypeCloneOf : «Type» → «Type» → Type 0
IsTypeCloneOf ty copy = type_wrapping copy ≡ type_wrapping ty
