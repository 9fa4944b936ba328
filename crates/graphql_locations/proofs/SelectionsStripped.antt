-- Of kinds.Executable: selections of the code that are made again without locations.
use Rattle.std.proofs.Common.{◌≡◌, ℕ, ◌≤◌, List, ◌++◌, length, ap, ◌∙◌}
use Rattle.std.proofs.lemmas.List.Folds.{flat_map-map}
use Rattle.graphql_base.specs.declared.span.SourceSpan.{SourceSpan}
use Rattle.graphql_executable.specs.declared.field.Field.{Field, fold_out-Field}
use Rattle.graphql_executable.specs.declared.inline_fragment.InlineFragment.{InlineFragment, fold_out-InlineFragment}
use Rattle.graphql_executable.specs.declared.selection.Selection.{Selection}
use Rattle.graphql_executable.specs.trees.ExecutableTrees.{selection_tree, selection_trees, selections_of}
use Rattle.graphql_locations.specs.Leaves.{list_locations, name_locations, node_locations, optional_locations}
use Rattle.graphql_locations.specs.kinds.Executable.{field_locations, field_locations_step, inline_fragment_locations}
use Rattle.graphql_locations.specs.kinds.Executable.{inline_fragment_locations_step, selection_locations, selection_locations_step}
use Rattle.graphql_locations.specs.kinds.Values.{argument_locations, directive_list_locations, told}
use Rattle.graphql_locations.proofs.PartsStripped.{IsMadeUpTo, all_made}

abbrev Spans : Type 0
Spans = List SourceSpan

-- FIELDS AND INLINE FRAGMENTS

pub field_has : (field : Field) →
    field_locations field
    ≡ optional_locations name_locations field.alias
    ++ name_locations field.name
    ++ list_locations (node_locations argument_locations) field.arguments.items
    ++ directive_list_locations field.directives
    ++ list_locations selection_locations field.selection_set.items
field_has field =
    fold_out-Field Spans Spans Spans selection_locations_step field_locations_step inline_fragment_locations_step field
    ∙ ap (λ selections. optional_locations name_locations field.alias ++ name_locations field.name
    ++ list_locations (node_locations argument_locations) field.arguments.items ++ directive_list_locations field.directives ++ selections)
    (flat_map-map told selection_locations field.selection_set.items)

pub inline_fragment_has : (fragment : InlineFragment) →
    inline_fragment_locations fragment
    ≡ optional_locations name_locations fragment.type_condition
    ++ directive_list_locations fragment.directives
    ++ list_locations selection_locations fragment.selection_set.items
inline_fragment_has fragment =
    fold_out-InlineFragment Spans Spans Spans selection_locations_step field_locations_step inline_fragment_locations_step fragment
    ∙ ap (λ selections. optional_locations name_locations fragment.type_condition ++ directive_list_locations fragment.directives ++ selections)
    (flat_map-map told selection_locations fragment.selection_set.items)

-- SELECTION SETS

pub selections_made : (selections : List Selection) (i : ℕ) (made : List Selection) → length selections ≤ i → IsMadeUpTo selection_tree selections i made →
    selection_trees made ≡ selection_trees selections
selections_made selections i made past so_far = ap selections_of (all_made selection_tree selections i made past so_far)
