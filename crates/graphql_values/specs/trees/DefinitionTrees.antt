-- The trees that definitions of input values and of directives of the code stand for.
use Rattle.std.specs.Prelude.{List, map}
use Rattle.std.specs.Option.{option_map}
use Rattle.graphql_base.specs.declared.node.Node.{Node}
use Rattle.graphql_base.specs.Node.{node_value}
use Rattle.graphql_text.specs.trees.Leaves.{described_tree, name_tree}
use Rattle.graphql_values.specs.kinds.DirectiveDefinitions.{directive_definition_kind}
use Rattle.graphql_values.specs.trees.DirectiveTrees.{directive_trees}
use Rattle.graphql_values.specs.kinds.InputValueDefinitions.{input_value_definition_kind}
use Rattle.graphql_values.specs.trees.LocationTrees.{location_tree}
use Rattle.graphql_values.specs.trees.TypeTrees.{type_tree}
use Rattle.graphql_values.specs.trees.ValueTrees.{value_tree}
use Rattle.graphql_values.specs.declared.directive_definition.DirectiveDefinition.{DirectiveDefinition}
use Rattle.graphql_values.specs.declared.input_value_definition.InputValueDefinition.{InputValueDefinition}

-- The tree of a definition: all of it but the locations in a source text.
abbrev pub input_value_definition_tree : InputValueDefinition → input_value_definition_kind.Tree
input_value_definition_tree input = described_tree input.description (record {
  name = name_tree input.name;
  type = type_tree (node_value input.ty);
  default_value = option_map (λ node. value_tree (node_value node)) input.default_value;
  directives = directive_trees input.directives;
})

abbrev pub input_value_definition_trees : List (Node InputValueDefinition) → List input_value_definition_kind.Tree
input_value_definition_trees = map (λ node. input_value_definition_tree (node_value node))

abbrev pub directive_definition_tree : DirectiveDefinition → directive_definition_kind.Tree
directive_definition_tree definition = described_tree definition.description (record {
  name = name_tree definition.name;
  arguments = input_value_definition_trees definition.arguments.items;
  repeatable = definition.repeatable;
  locations = map location_tree definition.locations.items;
})
