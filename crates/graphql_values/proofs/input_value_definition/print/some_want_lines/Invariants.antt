use Rattle.std.proofs.Common.{◌≡◌, drop}
use Rattle.std.specs.List.{list_any}
use Rattle.graphql_values.specs.kinds.ArgumentsDefinitions.{wants_lines}
use Rattle.graphql_values.specs.trees.DefinitionTrees.{input_value_definition_trees}
use Rattle.graphql_values.proofs.input_value_definition.print.some_want_lines.Given as goal

abbrev pub invariant-loop-argument : goal.invariant-loop-argument
invariant-loop-argument l =
    list_any wants_lines (input_value_definition_trees (drop l.argument-index l.arguments)) ≡ list_any wants_lines (input_value_definition_trees l.arguments)
