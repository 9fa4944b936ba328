-- What is made of fields and of selection sets where fields get another name, or each set one field more.
use Rattle.std.specs.Prelude.{ℕ, List, [], None, Bool, false, ◌||◌, if◌then◌else◌, nat_eq, unwrap_or}
use Rattle.std.specs.Cmp.Lexicographic.{pointwise}
use Rattle.graphql_text.specs.lexical.Literals.{NameText}
use Rattle.graphql_executable.specs.kinds.Fields.{FieldTree}
use Rattle.graphql_executable.specs.kinds.SelectionHeads.{FieldHeadTree}
use Rattle.graphql_executable.specs.kinds.Selections.{SelectionTree, field_selection, spread_selection, inline_selection}
use Rattle.graphql_executable.specs.kinds.Selections.{SelectionTrees, no_selections, more_selections}
use Rattle.graphql_rewrite.specs.Rewritings.{Rewriting, unchanged}

-- whether a name is that text
abbrev pub is_text : List ℕ → NameText → Bool
is_text text name = pointwise nat_eq name.text text

-- ANOTHER NAME

-- the field with another name, if it has this one; its alias stays
abbrev pub renamed_field : List ℕ → NameText → FieldTree → FieldTree
renamed_field from to field =
    if is_text from field.head.name then record field { head = record field.head { name = to } } else field

abbrev pub renaming_fields : List ℕ → NameText → Rewriting
renaming_fields from to = record unchanged { field = renamed_field from to }

-- ONE FIELD MORE

-- a name alone
abbrev pub plain_head : NameText → FieldHeadTree
plain_head name = record { alias = None; name = name; arguments = []; directives = [] }

-- whether it is a field of which the response speaks by that name: by its alias, if it has one
abbrev pub responds_as : List ℕ → SelectionTree → Bool
responds_as text (field_selection head set) = is_text text (unwrap_or head.alias head.name)
responds_as text (spread_selection spread) = false
responds_as text (inline_selection head set) = false

abbrev pub has_response : List ℕ → SelectionTrees → Bool
has_response text no_selections = false
has_response text (more_selections selection more) = responds_as text selection || has_response text more

-- the field at the end
abbrev pub with_field : NameText → SelectionTrees → SelectionTrees
with_field name no_selections = more_selections (field_selection (plain_head name) no_selections) no_selections
with_field name (more_selections selection more) = more_selections selection (with_field name more)

-- the set with the field, unless the response speaks of one of its fields by that name
abbrev pub with_field_once : NameText → SelectionTrees → SelectionTrees
with_field_once name set = if has_response name.text set then set else with_field name set

abbrev pub adding_field : NameText → Rewriting
adding_field name = record unchanged { selections = with_field_once name }
