-- The trees that arguments and directives of the code stand for.
use Rattle.std.specs.Prelude.{List, map}
use Rattle.graphql_base.specs.declared.node.Node.{Node}
use Rattle.graphql_base.specs.Node.{node_value}
use Rattle.graphql_values.specs.kinds.Arguments.{ArgumentTree}
use Rattle.graphql_values.specs.kinds.Directives.{DirectiveTree}
use Rattle.graphql_text.specs.trees.Leaves.{name_tree}
use Rattle.graphql_values.specs.trees.ValueTrees.{value_tree}
use Rattle.graphql_values.specs.declared.argument.Argument.{Argument}
use Rattle.graphql_values.specs.declared.directive.Directive.{Directive}
use Rattle.graphql_values.specs.declared.directive_list.DirectiveList.{DirectiveList}

-- The tree of an argument, a directive and a list: all of it but the locations.
abbrev pub argument_tree : Argument → ArgumentTree
argument_tree argument = record { name = name_tree argument.name; value = value_tree (node_value argument.value) }

abbrev pub argument_trees : List (Node Argument) → List ArgumentTree
argument_trees = map (λ node. argument_tree (node_value node))

abbrev pub directive_tree : Directive → DirectiveTree
directive_tree directive = record { name = name_tree directive.name; arguments = argument_trees directive.arguments.items }

abbrev pub directive_node_trees : List (Node Directive) → List DirectiveTree
directive_node_trees = map (λ node. directive_tree (node_value node))

abbrev pub directive_trees : DirectiveList → List DirectiveTree
directive_trees list = directive_node_trees list.0.items
