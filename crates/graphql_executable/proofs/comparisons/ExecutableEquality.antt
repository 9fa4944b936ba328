-- What the derived `==` of variable definitions, operations and fragment definitions decides: whether their trees are the same.
use Rattle.std.proofs.Common.{◌≡◌, ap}
use Rattle.std.specs.Bool.{Decides}
use Rattle.graphql_text.specs.trees.Leaves.{name_tree}
use Rattle.graphql_values.proofs.comparisons.DefinitionEquality.{described_decide, operation_types_decide}
use Rattle.graphql_values.proofs.comparisons.DirectiveEquality.{directive_lists_decide, nodes_decide, options_decide}
use Rattle.graphql_values.proofs.comparisons.ValueEquality.{both, names_decide, same_names, values_decide}
use Rattle.graphql_values.proofs.comparisons.TypeEquality.{types_decide}
use Rattle.graphql_values.specs.trees.ValueTrees.{value_tree}
use Rattle.graphql_values.specs.contracts.value.ValuePartialEq.TheImpl as value
use Rattle.graphql_executable.specs.trees.ExecutableTrees.{fragment_definition_tree, operation_definition_tree, variable_definition_tree}
use Rattle.graphql_executable.specs.contracts.fragment_definition.FragmentDefinitionPartialEq.TheImpl as fragment
use Rattle.graphql_executable.specs.contracts.operation_definition.OperationDefinitionPartialEq.TheImpl as operation
use Rattle.graphql_executable.specs.contracts.variable_definition.VariableDefinitionPartialEq.TheImpl as variable
use Rattle.graphql_executable.specs.declared.fragment_definition.FragmentDefinition.{FragmentDefinition}
use Rattle.graphql_executable.specs.declared.operation_definition.OperationDefinition.{OperationDefinition}
use Rattle.graphql_executable.specs.declared.variable_definition.VariableDefinition.{VariableDefinition}
use Rattle.graphql_executable.proofs.comparisons.SelectionEquality.{selection_lists_decide}

pub variable_definitions_decide : (a b : VariableDefinition) → Decides (variable.ghosts.eq a b) (variable_definition_tree a ≡ variable_definition_tree b)
variable_definitions_decide a b = described_decide a.description b.description (variable_definition_tree a).body (variable_definition_tree b).body (
    both _ _ (names_decide a.name b.name) (both _ _ (types_decide a.ty.value b.ty.value) (both _ _
    (options_decide (λ n m. value.ghosts.eq n.value m.value) (λ n. value_tree n.value) (λ n m. values_decide n.value m.value) a.default_value b.default_value)
    (directive_lists_decide a.directives b.directives) (λ e. e) (λ p q. (p, q))) (λ e. e) (λ p q. (p, q)))
    (λ e. (ap (λ t. t.name) e, (ap (λ t. t.type) e, (ap (λ t. t.default_value) e, ap (λ t. t.directives) e))))
    (λ p q. λ i. record { name = p i; type = q.0 i; default_value = q.1.0 i; directives = q.1.1 i }))

pub operation_definitions_decide : (a b : OperationDefinition) → Decides (operation.ghosts.eq a b) (operation_definition_tree a ≡ operation_definition_tree b)
operation_definitions_decide a b = described_decide a.description b.description (operation_definition_tree a).body (operation_definition_tree b).body (
    both _ _ (operation_types_decide a.operation_type b.operation_type) (both _ _ (options_decide same_names name_tree names_decide a.name b.name) (both _ _
    (nodes_decide variable.ghosts.eq variable_definition_tree variable_definitions_decide a.variables.items b.variables.items)
    (both _ _ (directive_lists_decide a.directives b.directives) (selection_lists_decide a.selection_set.items b.selection_set.items)
    (λ e. e) (λ p q. (p, q))) (λ e. e) (λ p q. (p, q))) (λ e. e) (λ p q. (p, q)))
    (λ e. (ap (λ t. t.operation_type) e, (ap (λ t. t.name) e, (ap (λ t. t.variables) e, (ap (λ t. t.directives) e, ap (λ t. t.selections) e)))))
    (λ p q. λ i. record { operation_type = p i; name = q.0 i; variables = q.1.0 i; directives = q.1.1.0 i; selections = q.1.1.1 i }))

pub fragment_definitions_decide : (a b : FragmentDefinition) → Decides (fragment.ghosts.eq a b) (fragment_definition_tree a ≡ fragment_definition_tree b)
fragment_definitions_decide a b = described_decide a.description b.description (fragment_definition_tree a).body (fragment_definition_tree b).body (
    both _ _ (names_decide a.name b.name) (both _ _ (names_decide a.type_condition b.type_condition) (both _ _
    (directive_lists_decide a.directives b.directives) (selection_lists_decide a.selection_set.items b.selection_set.items)
    (λ e. e) (λ p q. (p, q))) (λ e. e) (λ p q. (p, q)))
    (λ e. (ap (λ t. t.name) e, (ap (λ t. t.type_condition) e, (ap (λ t. t.directives) e, ap (λ t. t.selections) e))))
    (λ p q. λ i. record { name = p i; type_condition = q.0 i; directives = q.1.0 i; selections = q.1.1 i }))
