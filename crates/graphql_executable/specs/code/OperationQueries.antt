-- What operations of the code answer: their variables by name.
use Rattle.std.specs.Prelude.{ℕ, Bool, List, Option}
use Rattle.std.specs.List.{find}
use Rattle.graphql_base.specs.declared.node.Node.{Node}
use Rattle.graphql_base.specs.Node.{node_value}
use Rattle.graphql_values.specs.code.Queries.{is_named}
use Rattle.graphql_executable.specs.declared.variable_definition.VariableDefinition.{VariableDefinition}

abbrev pub is_variable_definition_named : List ℕ → Node VariableDefinition → Bool
is_variable_definition_named text variable = is_named text (node_value variable).name

-- the first variable of that name
abbrev pub first_variable_definition_named : List ℕ → List (Node VariableDefinition) → Option (Node VariableDefinition)
first_variable_definition_named text = find (is_variable_definition_named text)
