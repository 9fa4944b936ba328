-- What is within selections, variable definitions, operations and fragments.
use Rattle.graphql_executable.specs.kinds.FragmentDefinitions.{fragment_definition_kind}
use Rattle.graphql_executable.specs.kinds.OperationDefinitions.{operation_definition_kind}
use Rattle.graphql_executable.specs.kinds.Selections.{SelectionTree, field_selection, spread_selection, inline_selection}
use Rattle.graphql_executable.specs.kinds.Selections.{SelectionTrees, no_selections, more_selections}
use Rattle.graphql_executable.specs.kinds.VariableDefinitions.{variable_definition_kind}
use Rattle.graphql_visit.specs.NodeTrees.{Selection, VariableDefinition}
use Rattle.graphql_visit.specs.Visits.{Visits, no_visits, visit, Visited, one, optional, each, ◌⨟◌}
use Rattle.graphql_visit.specs.kinds.Values.{argument_visited, directive_visited, type_visited, value_visited}

-- SELECTIONS

abbrev mutual
  pub within_selection : SelectionTree → Visits
  within_selection (field_selection head set) =
      each argument_visited head.arguments ⨟ each directive_visited head.directives ⨟ selections_visits set
  within_selection (spread_selection spread) = each directive_visited spread.directives
  within_selection (inline_selection head set) = each directive_visited head.directives ⨟ selections_visits set

  pub selections_visits : SelectionTrees → Visits
  selections_visits no_selections = no_visits
  selections_visits (more_selections selection more) =
      visit (Selection selection) (within_selection selection) (selections_visits more)

abbrev pub selection_visited : Visited SelectionTree
selection_visited = record { node = Selection; within = within_selection }

-- DEFINITIONS

abbrev pub variable_definition_visited : Visited variable_definition_kind.Tree
variable_definition_visited = record {
  node = VariableDefinition;
  within = λ variable.
      one type_visited variable.body.type ⨟ optional value_visited variable.body.default_value
      ⨟ each directive_visited variable.body.directives;
}

abbrev pub within_operation : operation_definition_kind.Tree → Visits
within_operation operation =
    each variable_definition_visited operation.body.variables ⨟ each directive_visited operation.body.directives
    ⨟ selections_visits operation.body.selections

abbrev pub within_fragment : fragment_definition_kind.Tree → Visits
within_fragment fragment = each directive_visited fragment.body.directives ⨟ selections_visits fragment.body.selections
