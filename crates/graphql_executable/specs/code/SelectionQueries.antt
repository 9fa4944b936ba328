-- What selections and fields of the code answer.
use Rattle.std.specs.Prelude.{List, Option, Some, None, unwrap_or}
use Rattle.graphql_base.specs.declared.name.Name.{Name}
use Rattle.graphql_base.specs.declared.node.Node.{Node}
use Rattle.graphql_base.specs.declared.span.SourceSpan.{SourceSpan}
use Rattle.graphql_base.specs.Node.{node_location, node_value}
use Rattle.graphql_values.specs.declared.directive_list.DirectiveList.{DirectiveList}
use Rattle.graphql_executable.specs.declared.field.Field.{Field}
use Rattle.graphql_executable.specs.declared.fragment_spread.FragmentSpread.{FragmentSpread}
use Rattle.graphql_executable.specs.declared.inline_fragment.InlineFragment.{InlineFragment}
use Rattle.graphql_executable.specs.declared.selection.Selection.{Selection, out-Selection}
use Rattle.graphql_executable.specs.declared.selection.Selection.TheOpen.{Selection-F}

abbrev pub location_at : Selection-F Selection Field InlineFragment → Option SourceSpan
location_at (Selection-F.Field node) = node_location node
location_at (Selection-F.FragmentSpread node) = node_location node
location_at (Selection-F.InlineFragment node) = node_location node

abbrev pub directives_at : Selection-F Selection Field InlineFragment → DirectiveList
directives_at (Selection-F.Field node) = (node_value node).directives
directives_at (Selection-F.FragmentSpread node) = (node_value node).directives
directives_at (Selection-F.InlineFragment node) = (node_value node).directives

abbrev pub selection_set_at : Selection-F Selection Field InlineFragment → Option (List Selection)
selection_set_at (Selection-F.Field node) = Some (node_value node).selection_set.items
selection_set_at (Selection-F.FragmentSpread node) = None
selection_set_at (Selection-F.InlineFragment node) = Some (node_value node).selection_set.items

abbrev pub field_at : Selection-F Selection Field InlineFragment → Option (Node Field)
field_at (Selection-F.Field node) = Some node
field_at _ = None

abbrev pub fragment_spread_at : Selection-F Selection Field InlineFragment → Option (Node FragmentSpread)
fragment_spread_at (Selection-F.FragmentSpread node) = Some node
fragment_spread_at _ = None

abbrev pub inline_fragment_at : Selection-F Selection Field InlineFragment → Option (Node InlineFragment)
inline_fragment_at (Selection-F.InlineFragment node) = Some node
inline_fragment_at _ = None

-- The location of its node, and its directives. A fragment spread has no selection set.
abbrev pub selection_location : Selection → Option SourceSpan
selection_location selection = location_at (out-Selection selection)

abbrev pub selection_directives : Selection → DirectiveList
selection_directives selection = directives_at (out-Selection selection)

abbrev pub selection_set_of : Selection → Option (List Selection)
selection_set_of selection = selection_set_at (out-Selection selection)

-- its node, if it is of that variant
abbrev pub field_of : Selection → Option (Node Field)
field_of selection = field_at (out-Selection selection)

abbrev pub fragment_spread_of : Selection → Option (Node FragmentSpread)
fragment_spread_of selection = fragment_spread_at (out-Selection selection)

abbrev pub inline_fragment_of : Selection → Option (Node InlineFragment)
inline_fragment_of selection = inline_fragment_at (out-Selection selection)

-- the response name of a field: its alias, or else its name (Field Alias, section 2.7)
abbrev pub response_name : Field → Name
response_name field = unwrap_or field.alias field.name
