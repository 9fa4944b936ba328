use Rattle.std.proofs.Common.{◌≡◌, drop}
use Rattle.std.specs.List.{list_any}
use Rattle.graphql_executable.specs.trees.ExecutableTrees.{variable_definition_trees}
use Rattle.graphql_executable.specs.kinds.VariableDefinitions.{wants_lines}
use Rattle.graphql_executable.proofs.variable_definition.print.some_variables_want_lines.Given as goal

abbrev pub invariant-loop-variable : goal.invariant-loop-variable
invariant-loop-variable l =
    list_any wants_lines (variable_definition_trees (drop l.variable-index l.variables)) ≡ list_any wants_lines (variable_definition_trees l.variables)
