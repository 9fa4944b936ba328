-- What is made of selections, variable definitions, operations and fragments.
use Rattle.std.specs.Prelude.{map}
use Rattle.std.specs.Option.{option_map}
use Rattle.graphql_executable.specs.kinds.Fields.{FieldTree, selection_of_field}
use Rattle.graphql_executable.specs.kinds.FragmentDefinitions.{fragment_definition_kind}
use Rattle.graphql_executable.specs.kinds.FragmentSpreads.{FragmentSpreadTree}
use Rattle.graphql_executable.specs.kinds.InlineFragments.{InlineFragmentTree}
use Rattle.graphql_executable.specs.kinds.OperationDefinitions.{operation_definition_kind}
use Rattle.graphql_executable.specs.kinds.SelectionHeads.{FieldHeadTree, InlineFragmentHeadTree}
use Rattle.graphql_executable.specs.kinds.Selections.{SelectionTree, field_selection, spread_selection, inline_selection}
use Rattle.graphql_executable.specs.kinds.Selections.{SelectionTrees, no_selections, more_selections}
use Rattle.graphql_executable.specs.kinds.VariableDefinitions.{variable_definition_kind}
use Rattle.graphql_rewrite.specs.Rewritings.{Rewriting}
use Rattle.graphql_rewrite.specs.kinds.Values.{with_body, rewritten_value, rewritten_arguments, rewritten_directives}

module _ (f : Rewriting) where
  -- SELECTIONS

  abbrev pub rewritten_field_head : FieldHeadTree → FieldHeadTree
  rewritten_field_head head = record {
    alias = head.alias;
    name = head.name;
    arguments = rewritten_arguments f head.arguments;
    directives = rewritten_directives f head.directives;
  }

  abbrev pub rewritten_fragment_spread : FragmentSpreadTree → FragmentSpreadTree
  rewritten_fragment_spread spread = record { name = spread.name; directives = rewritten_directives f spread.directives }

  abbrev pub rewritten_inline_fragment_head : InlineFragmentHeadTree → InlineFragmentHeadTree
  rewritten_inline_fragment_head head =
      record { type_condition = head.type_condition; directives = rewritten_directives f head.directives }

  -- a selection, each of the selections that stand in a set, and a set; a field without selections has no set
  abbrev mutual
    pub rewritten_selection : SelectionTree → SelectionTree
    rewritten_selection (field_selection head set) =
        selection_of_field (f.field (record { head = rewritten_field_head head; selections = rewritten_set set }))
    rewritten_selection (spread_selection spread) = spread_selection (rewritten_fragment_spread spread)
    rewritten_selection (inline_selection head set) = inline_selection (rewritten_inline_fragment_head head) (rewritten_set set)

    pub rewritten_selections : SelectionTrees → SelectionTrees
    rewritten_selections no_selections = no_selections
    rewritten_selections (more_selections selection more) =
        more_selections (rewritten_selection selection) (rewritten_selections more)

    pub rewritten_set : SelectionTrees → SelectionTrees
    rewritten_set no_selections = no_selections
    rewritten_set (more_selections selection more) =
        f.selections (more_selections (rewritten_selection selection) (rewritten_selections more))

  -- the parts of a field, before what is made of the field itself
  abbrev pub rewritten_within_field : FieldTree → FieldTree
  rewritten_within_field field = record { head = rewritten_field_head field.head; selections = rewritten_set field.selections }

  abbrev pub rewritten_field : FieldTree → FieldTree
  rewritten_field field = f.field (rewritten_within_field field)

  abbrev pub rewritten_inline_fragment : InlineFragmentTree → InlineFragmentTree
  rewritten_inline_fragment fragment =
      record { head = rewritten_inline_fragment_head fragment.head; selections = rewritten_set fragment.selections }

  -- DEFINITIONS

  abbrev pub rewritten_variable_definition : variable_definition_kind.Tree → variable_definition_kind.Tree
  rewritten_variable_definition = with_body (λ variable. record {
    name = variable.name;
    type = variable.type;
    default_value = option_map (rewritten_value f) variable.default_value;
    directives = rewritten_directives f variable.directives;
  })

  abbrev pub rewritten_operation_definition : operation_definition_kind.Tree → operation_definition_kind.Tree
  rewritten_operation_definition = with_body (λ operation. record {
    operation_type = operation.operation_type;
    name = operation.name;
    variables = map rewritten_variable_definition operation.variables;
    directives = rewritten_directives f operation.directives;
    selections = rewritten_set operation.selections;
  })

  abbrev pub rewritten_fragment_definition : fragment_definition_kind.Tree → fragment_definition_kind.Tree
  rewritten_fragment_definition = with_body (λ fragment. record {
    name = fragment.name;
    type_condition = fragment.type_condition;
    directives = rewritten_directives f fragment.directives;
    selections = rewritten_set fragment.selections;
  })
