use Rattle.std.proofs.Common.{None, refl}
use Rattle.graphql_text.proofs.parts.Parts.{part_one_way}
use Rattle.graphql_text.proofs.kinds.PrintedKinds.{part_derives_anywhere, printed_kind, same_kind}
use Rattle.graphql_values.proofs.comparisons.DefinitionEquality.{directive_definitions_decide, input_value_definitions_decide}
use Rattle.graphql_values.proofs.comparisons.DirectiveEquality.{directive_lists_decide, directives_decide}
use Rattle.graphql_values.proofs.comparisons.ValueEquality.{values_decide}
use Rattle.graphql_values.proofs.comparisons.TypeEquality.{types_decide}
use Rattle.graphql_values.specs.kinds.TypeReferences.{type_kind}
use Rattle.graphql_values.specs.trees.TypeTrees.{type_tree}
use Rattle.graphql_values.specs.kinds.Values.{NonConst}
use Rattle.graphql_values.specs.contracts.directive.DirectiveHash.TheImpl.Laws as directive
use Rattle.graphql_values.specs.contracts.directive_definition.DirectiveDefinitionHash.TheImpl.Laws as directive_definition
use Rattle.graphql_values.specs.contracts.directive_list.DirectiveListHash.TheImpl.Laws as directive_list
use Rattle.graphql_values.specs.contracts.input_value_definition.InputValueDefinitionHash.TheImpl.Laws as input_value_definition
use Rattle.graphql_values.specs.contracts.types.TypeHash.TheImpl.Laws as type_reference
use Rattle.graphql_values.specs.contracts.value.ValueHash.TheImpl.Laws as value
use Rattle.graphql_values.specs.lemmas.DirectiveDefinitions.{directive_definition_laws, directive_definition_part}
use Rattle.graphql_values.specs.lemmas.Directives.{directive_laws, directive_part, directives_laws, directives_part}
use Rattle.graphql_values.specs.lemmas.InputValueDefinitions.{input_value_definition_laws, input_value_definition_part}
use Rattle.graphql_values.specs.lemmas.Types.{type_laws, type_part}
use Rattle.graphql_values.specs.lemmas.Values.{value_laws, value_part}
use Rattle.graphql_values.proofs.laws.printed_kinds.Goals as goal

pub returns-clause-values : goal.returns-clause-values
returns-clause-values c = printed_kind (value_part NonConst) (λ broken front tree. refl) value_laws values_decide value.respects_eq-law

pub returns-clause-types : goal.returns-clause-types
returns-clause-types c = record {
  is = same_kind type_tree;
  stacked = λ type. refl;
  laws = type_laws;
  displayed = λ type obeyed. type_laws.reads_alone (type_tree type) None 0 refl tt;
  one_way = part_one_way type_part;
  derives = part_derives_anywhere type_kind type_part (λ broken front tree. refl);
  compared = types_decide;
  hashed = type_reference.respects_eq-law;
}

pub returns-clause-directives : goal.returns-clause-directives
returns-clause-directives c = printed_kind (directive_part NonConst) (λ broken front tree. refl) directive_laws directives_decide directive.respects_eq-law

pub returns-clause-directive_lists : goal.returns-clause-directive_lists
returns-clause-directive_lists c =
    printed_kind (directives_part NonConst) (λ broken front tree. refl) directives_laws directive_lists_decide directive_list.respects_eq-law

pub returns-clause-input_value_definitions : goal.returns-clause-input_value_definitions
returns-clause-input_value_definitions c =
    printed_kind input_value_definition_part (λ broken front tree. refl)
    input_value_definition_laws input_value_definitions_decide input_value_definition.respects_eq-law

pub returns-clause-directive_definitions : goal.returns-clause-directive_definitions
returns-clause-directive_definitions c =
    printed_kind directive_definition_part (λ broken front tree. refl)
    directive_definition_laws directive_definitions_decide directive_definition.respects_eq-law
