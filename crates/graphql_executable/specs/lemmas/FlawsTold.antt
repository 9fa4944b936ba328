-- Of the flaws of kinds: they tell what the side conditions do.
use Rattle.std.proofs.Common.{◌≡◌, ◌++◌, Option, Some, refl}
use Rattle.graphql_text.specs.declared.ill_formed.SideCondition.TheVariants.{HasSelection, IsNotOn}
use Rattle.graphql_text.specs.kinds.Flaws.{TellsFlaws, flaw_unless, has_no_flaw}
use Rattle.graphql_text.specs.lexical.Literals.{NameText}
use Rattle.graphql_text.proofs.kinds.FlawsTold.{all_tell, both_tell, unless_tells}
use Rattle.graphql_values.specs.kinds.Arguments.{arguments_flaws}
use Rattle.graphql_values.specs.kinds.DefaultValues.{default_value_flaws}
use Rattle.graphql_values.specs.kinds.Directives.{directives_flaws}
use Rattle.graphql_values.specs.kinds.Values.{Const, NonConst}
use Rattle.graphql_values.specs.lemmas.FlawsTold.{arguments_tell, default_value_tells, directives_tell}
use Rattle.graphql_executable.specs.kinds.Fields.{field_kind, selection_of_field}
use Rattle.graphql_executable.specs.kinds.FragmentDefinitions.{fragment_definition_kind}
use Rattle.graphql_executable.specs.kinds.FragmentNames.{is_fragment_name}
use Rattle.graphql_executable.specs.kinds.FragmentSpreads.{fragment_spread_kind}
use Rattle.graphql_executable.specs.kinds.InlineFragments.{inline_fragment_kind, selection_of_inline_fragment}
use Rattle.graphql_executable.specs.kinds.OperationDefinitions.{operation_definition_kind}
use Rattle.graphql_executable.specs.kinds.SelectionHeads.{field_head_flaws, field_head_obeys, inline_fragment_head_flaws, inline_fragment_head_obeys}
use Rattle.graphql_executable.specs.kinds.Selections.{SelectionTree, SelectionTrees, field_selection, has_selections, inline_selection, more_selections}
use Rattle.graphql_executable.specs.kinds.Selections.{no_selections, selection_flaws, selection_obeys, selection_set_flaws, selection_set_obeys}
use Rattle.graphql_executable.specs.kinds.Selections.{selections_flaws, selections_obey, spread_selection}
use Rattle.graphql_executable.specs.kinds.VariableDefinitions.{variable_definition_kind, variable_definitions_flaws, variable_definitions_obey}

pub fragment_spread_tells : TellsFlaws fragment_spread_kind.obeys fragment_spread_kind.flaws
fragment_spread_tells fragment =
    both_tell (flaw_unless (is_fragment_name fragment.name.text) IsNotOn (Some fragment.name)) (directives_flaws NonConst fragment.directives)
    (unless_tells (is_fragment_name fragment.name.text) IsNotOn (Some fragment.name)) (directives_tell NonConst fragment.directives)

pub field_head_tells : TellsFlaws field_head_obeys field_head_flaws
field_head_tells field =
    both_tell (arguments_flaws NonConst field.arguments) (directives_flaws NonConst field.directives)
    (arguments_tell NonConst field.arguments) (directives_tell NonConst field.directives)

pub inline_fragment_head_tells : TellsFlaws inline_fragment_head_obeys inline_fragment_head_flaws
inline_fragment_head_tells fragment = directives_tell NonConst fragment.directives

-- a set that may not be empty, from what its selections tell
set_tells : (name : Option NameText) (set : SelectionTrees) → selections_obey set ≡ has_no_flaw (selections_flaws set) →
    selection_set_obeys set ≡ has_no_flaw (selection_set_flaws name set)
set_tells name set tell =
    both_tell (flaw_unless (has_selections set) HasSelection name) (selections_flaws set) (unless_tells (has_selections set) HasSelection name) tell

mutual
  pub selection_tells : (selection : SelectionTree) → selection_obeys selection ≡ has_no_flaw (selection_flaws selection)
  selection_tells (field_selection head set) =
      both_tell (field_head_flaws head) (selections_flaws set) (field_head_tells head) (selections_tell set)
  selection_tells (spread_selection fragment) = fragment_spread_tells fragment
  selection_tells (inline_selection head set) =
      both_tell (inline_fragment_head_flaws head) (selection_set_flaws head.type_condition set)
      (inline_fragment_head_tells head) (set_tells head.type_condition set (selections_tell set))

  pub selections_tell : (set : SelectionTrees) → selections_obey set ≡ has_no_flaw (selections_flaws set)
  selections_tell no_selections = refl
  selections_tell (more_selections selection more) =
      both_tell (selection_flaws selection) (selections_flaws more) (selection_tells selection) (selections_tell more)

pub field_tells : TellsFlaws field_kind.obeys field_kind.flaws
field_tells field = selection_tells (selection_of_field field)

pub inline_fragment_tells : TellsFlaws inline_fragment_kind.obeys inline_fragment_kind.flaws
inline_fragment_tells fragment = selection_tells (selection_of_inline_fragment fragment)

pub selection_set_tells : (name : Option NameText) → TellsFlaws selection_set_obeys (selection_set_flaws name)
selection_set_tells name set = set_tells name set (selections_tell set)

pub variable_definition_tells : TellsFlaws variable_definition_kind.obeys variable_definition_kind.flaws
variable_definition_tells variable =
    both_tell (default_value_flaws variable.body.default_value) (directives_flaws Const variable.body.directives)
    (default_value_tells variable.body.default_value) (directives_tell Const variable.body.directives)

pub variable_definitions_tell : TellsFlaws variable_definitions_obey variable_definitions_flaws
variable_definitions_tell = all_tell variable_definition_kind.flaws variable_definition_tells

pub operation_definition_tells : TellsFlaws operation_definition_kind.obeys operation_definition_kind.flaws
operation_definition_tells operation =
    let body = operation.body in
    both_tell (variable_definitions_flaws body.variables) (directives_flaws NonConst body.directives ++ selection_set_flaws body.name body.selections)
    (variable_definitions_tell body.variables)
    (both_tell (directives_flaws NonConst body.directives) (selection_set_flaws body.name body.selections)
    (directives_tell NonConst body.directives) (selection_set_tells body.name body.selections))

pub fragment_definition_tells : TellsFlaws fragment_definition_kind.obeys fragment_definition_kind.flaws
fragment_definition_tells fragment =
    let body = fragment.body in
    both_tell (flaw_unless (is_fragment_name body.name.text) IsNotOn (Some body.name))
    (directives_flaws NonConst body.directives ++ selection_set_flaws (Some body.name) body.selections)
    (unless_tells (is_fragment_name body.name.text) IsNotOn (Some body.name))
    (both_tell (directives_flaws NonConst body.directives) (selection_set_flaws (Some body.name) body.selections)
    (directives_tell NonConst body.directives) (selection_set_tells (Some body.name) body.selections))
