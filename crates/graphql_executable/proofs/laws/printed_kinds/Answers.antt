use Rattle.std.proofs.Common.{refl}
use Rattle.graphql_text.proofs.parts.Parts.{part_one_way}
use Rattle.graphql_text.proofs.kinds.PrintedKinds.{printed_kind, read_as_displayed, same_kind}
use Rattle.graphql_executable.proofs.comparisons.ExecutableEquality.{fragment_definitions_decide, operation_definitions_decide, variable_definitions_decide}
use Rattle.graphql_executable.proofs.comparisons.SelectionEquality.{fields_decide, fragment_spreads_decide, inline_fragments_decide, selections_decide}
use Rattle.graphql_executable.specs.trees.ExecutableTrees.{operation_definition_tree}
use Rattle.graphql_executable.specs.contracts.field.FieldHash.TheImpl.Laws as field
use Rattle.graphql_executable.specs.contracts.fragment_definition.FragmentDefinitionHash.TheImpl.Laws as fragment_definition
use Rattle.graphql_executable.specs.contracts.fragment_spread.FragmentSpreadHash.TheImpl.Laws as fragment_spread
use Rattle.graphql_executable.specs.contracts.inline_fragment.InlineFragmentHash.TheImpl.Laws as inline_fragment
use Rattle.graphql_executable.specs.contracts.operation_definition.OperationDefinitionHash.TheImpl.Laws as operation_definition
use Rattle.graphql_executable.specs.contracts.selection.SelectionHash.TheImpl.Laws as selection
use Rattle.graphql_executable.specs.contracts.variable_definition.VariableDefinitionHash.TheImpl.Laws as variable_definition
use Rattle.graphql_executable.specs.lemmas.Definitions.{fragment_definition_laws, fragment_definition_part, operation_definition_laws}
use Rattle.graphql_executable.specs.lemmas.Definitions.{operation_definition_part, operation_derives}
use Rattle.graphql_executable.specs.lemmas.Heads.{fragment_spread_laws, fragment_spread_part}
use Rattle.graphql_executable.specs.lemmas.Selections.{field_laws, field_part, inline_fragment_laws, inline_fragment_part, selection_laws, selection_part}
use Rattle.graphql_executable.specs.lemmas.VariableDefinitions.{variable_definition_laws, variable_definition_part}
use Rattle.graphql_executable.proofs.laws.printed_kinds.Goals as goal

pub returns-clause-variable_definitions : goal.returns-clause-variable_definitions
returns-clause-variable_definitions c =
    printed_kind variable_definition_part (λ broken front tree. refl) variable_definition_laws variable_definitions_decide variable_definition.respects_eq-law

pub returns-clause-selections : goal.returns-clause-selections
returns-clause-selections c = printed_kind selection_part (λ broken front tree. refl) selection_laws selections_decide selection.respects_eq-law

pub returns-clause-fields : goal.returns-clause-fields
returns-clause-fields c = printed_kind field_part (λ broken front tree. refl) field_laws fields_decide field.respects_eq-law

pub returns-clause-fragment_spreads : goal.returns-clause-fragment_spreads
returns-clause-fragment_spreads c =
    printed_kind fragment_spread_part (λ broken front tree. refl) fragment_spread_laws fragment_spreads_decide fragment_spread.respects_eq-law

pub returns-clause-inline_fragments : goal.returns-clause-inline_fragments
returns-clause-inline_fragments c =
    printed_kind inline_fragment_part (λ broken front tree. refl) inline_fragment_laws inline_fragments_decide inline_fragment.respects_eq-law

pub returns-clause-operation_definitions : goal.returns-clause-operation_definitions
returns-clause-operation_definitions c = record {
  is = same_kind operation_definition_tree;
  stacked = λ operation. refl;
  laws = operation_definition_laws;
  displayed = read_as_displayed operation_definition_tree operation_definition_laws;
  one_way = part_one_way operation_definition_part;
  derives = operation_derives;
  compared = operation_definitions_decide;
  hashed = operation_definition.respects_eq-law;
}

pub returns-clause-fragment_definitions : goal.returns-clause-fragment_definitions
returns-clause-fragment_definitions c =
    printed_kind fragment_definition_part (λ broken front tree. refl) fragment_definition_laws fragment_definitions_decide fragment_definition.respects_eq-law
