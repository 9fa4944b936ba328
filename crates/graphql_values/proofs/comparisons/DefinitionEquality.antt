-- What the derived `==` of what has a description, of operation types, input value definitions and directive
-- definitions decides: whether their trees are the same.
use Rattle.std.proofs.Common.{◌≡◌, Bool, ◌&&◌, Option, eqb, rules, chars, encode_utf8_all, sym, ap, ◌∙◌}
use Rattle.std.specs.Bool.{Decides}
use Rattle.std.specs.Cmp.{booleans_Decides}
use Rattle.std.specs.Cmp.Lexicographic.{pointwise, bytes_decides}
use Rattle.std.specs.Option.{option_eq, option_map}
use Rattle.std.proofs.lemmas.Str.{IsUtf8-had, encodes-chars}
use Rattle.graphql_base.specs.declared.node_str.NodeStr.{NodeStr}
use Rattle.graphql_text.proofs.lexical.CheckedTexts.{same_text}
use Rattle.graphql_values.proofs.comparisons.DirectiveEquality.{directive_lists_decide, lists_decide, nodes_decide, options_decide}
use Rattle.graphql_values.proofs.comparisons.ValueEquality.{both, through, names_decide, values_decide}
use Rattle.graphql_values.proofs.comparisons.TypeEquality.{types_decide}
use Rattle.graphql_text.specs.trees.Leaves.{described_tree, description_tree}
use Rattle.graphql_values.specs.trees.DefinitionTrees.{directive_definition_tree, input_value_definition_tree}
use Rattle.graphql_values.specs.trees.LocationTrees.{location_tree, operation_type_tree}
use Rattle.graphql_values.specs.trees.ValueTrees.{value_tree}
use Rattle.graphql_values.specs.contracts.directive_definition.DirectiveDefinitionPartialEq.TheImpl as definition
use Rattle.graphql_values.specs.contracts.input_value_definition.InputValueDefinitionPartialEq.TheImpl as input
use Rattle.graphql_values.specs.contracts.directive_location.DirectiveLocationPartialEq.TheImpl as location
use Rattle.graphql_values.specs.contracts.operation_type.OperationTypePartialEq.TheImpl as operation_type
use Rattle.graphql_values.specs.contracts.value.ValuePartialEq.TheImpl as value
use Rattle.graphql_values.specs.declared.directive_definition.DirectiveDefinition.{DirectiveDefinition}
use Rattle.graphql_values.specs.declared.input_value_definition.InputValueDefinition.{InputValueDefinition}
use Rattle.graphql_values.specs.declared.directive_location.DirectiveLocation.{DirectiveLocation}
use Rattle.graphql_values.specs.declared.operation_type.OperationType.{OperationType}

-- two descriptions of the same characters have the same bytes
same_bytes : (a b : NodeStr) → chars a.text ≡ chars b.text → a.text ≡ b.text
same_bytes a b e = sym (encodes-chars a.text (IsUtf8-had a.text a.valid)) ∙ ap encode_utf8_all e ∙ encodes-chars b.text (IsUtf8-had b.text b.valid)

pub descriptions_decide : (a b : Option NodeStr) →
    Decides (option_eq (λ x y. pointwise eqb x.text y.text) a b) (option_map description_tree a ≡ option_map description_tree b)
descriptions_decide = options_decide (λ x y. pointwise eqb x.text y.text) description_tree
    (λ x y.
    through (bytes_decides x.text y.text) (λ e. same_bytes x y (ap (λ t. t.text) e))
    (λ e. same_text (description_tree x) (description_tree y) (ap chars e)))

-- a description, and what it describes
pub described_decide : {Body : Type 0} {p : Bool} (d e : Option NodeStr) (b c : Body) → Decides p (b ≡ c) →
    Decides (option_eq (λ x y. pointwise eqb x.text y.text) d e && p) (described_tree d b ≡ described_tree e c)
described_decide d e b c same =
    both _ _ (descriptions_decide d e) same (λ e. (ap (λ t. t.description) e, ap (λ t. t.body) e)) (λ p q. λ i. record { description = p i; body = q i })

pub operation_types_decide : (a b : OperationType) → Decides (operation_type.ghosts.eq a b) (operation_type_tree a ≡ operation_type_tree b)
operation_types_decide a b = search rules

pub locations_decide : (a b : DirectiveLocation) → Decides (location.ghosts.eq a b) (location_tree a ≡ location_tree b)
locations_decide a b = search rules

pub input_value_definitions_decide : (a b : InputValueDefinition) →
    Decides (input.ghosts.eq a b) (input_value_definition_tree a ≡ input_value_definition_tree b)
input_value_definitions_decide a b = described_decide a.description b.description (input_value_definition_tree a).body (input_value_definition_tree b).body (
    both _ _ (names_decide a.name b.name) (both _ _ (types_decide a.ty.value b.ty.value) (both _ _
    (options_decide (λ n m. value.ghosts.eq n.value m.value) (λ n. value_tree n.value) (λ n m. values_decide n.value m.value) a.default_value b.default_value)
    (directive_lists_decide a.directives b.directives) (λ e. e) (λ p q. (p, q))) (λ e. e) (λ p q. (p, q)))
    (λ e. (ap (λ t. t.name) e, (ap (λ t. t.type) e, (ap (λ t. t.default_value) e, ap (λ t. t.directives) e))))
    (λ p q. λ i. record { name = p i; type = q.0 i; default_value = q.1.0 i; directives = q.1.1 i }))

pub directive_definitions_decide : (a b : DirectiveDefinition) → Decides (definition.ghosts.eq a b) (directive_definition_tree a ≡ directive_definition_tree b)
directive_definitions_decide a b = described_decide a.description b.description (directive_definition_tree a).body (directive_definition_tree b).body (
    both _ _ (names_decide a.name b.name) (both _ _
    (nodes_decide input.ghosts.eq input_value_definition_tree input_value_definitions_decide a.arguments.items b.arguments.items)
    (both _ _ (booleans_Decides a.repeatable b.repeatable) (lists_decide location.ghosts.eq location_tree locations_decide a.locations.items b.locations.items)
    (λ e. e) (λ p q. (p, q))) (λ e. e) (λ p q. (p, q)))
    (λ e. (ap (λ t. t.name) e, (ap (λ t. t.arguments) e, (ap (λ t. t.repeatable) e, ap (λ t. t.locations) e))))
    (λ p q. λ i. record { name = p i; arguments = q.0 i; repeatable = q.1.0 i; locations = q.1.1 i }))
