-- What is read of nodes in one another before the nodes that stand in them.
use Rattle.std.specs.Option.{option_map}
use Rattle.graphql_text.specs.trees.Leaves.{name_tree}
use Rattle.graphql_values.specs.trees.DirectiveTrees.{argument_trees, directive_trees}
use Rattle.graphql_executable.specs.kinds.SelectionHeads.{FieldHeadTree, InlineFragmentHeadTree}
use Rattle.graphql_ast_json.specs.declared.selection.read.FieldHead.{FieldHead}
use Rattle.graphql_ast_json.specs.declared.selection.read.InlineFragmentHead.{InlineFragmentHead}

-- what stands before the set of a field
abbrev pub field_head_tree : FieldHead → FieldHeadTree
field_head_tree head = record {
  alias = option_map name_tree head.alias;
  name = name_tree head.name;
  arguments = argument_trees head.arguments.items;
  directives = directive_trees head.directives;
}

-- what stands before the set of an inline fragment
abbrev pub inline_fragment_head_tree : InlineFragmentHead → InlineFragmentHeadTree
inline_fragment_head_tree head = record { type_condition = option_map name_tree head.type_condition; directives = directive_trees head.directives }
