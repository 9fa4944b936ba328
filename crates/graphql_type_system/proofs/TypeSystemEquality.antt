-- What the derived `==` of definitions and extensions decides: whether their trees are the same. A definition and an extension are decided as
-- what they share.
use Rattle.std.proofs.Common.{◌≡◌, Bool, ◌&&◌, List, ap}
use Rattle.std.specs.Bool.{Decides}
use Rattle.std.specs.Cmp.Lexicographic.{pointwise}
use Rattle.graphql_base.specs.declared.name.Name.{Name}
use Rattle.graphql_base.specs.declared.node.Node.{Node}
use Rattle.graphql_text.specs.trees.Leaves.{name_tree}
use Rattle.graphql_values.proofs.comparisons.DefinitionEquality.{described_decide, input_value_definitions_decide, operation_types_decide}
use Rattle.graphql_values.proofs.comparisons.DirectiveEquality.{directive_lists_decide, lists_decide, nodes_decide, same_nodes}
use Rattle.graphql_values.proofs.comparisons.ValueEquality.{both, names_decide, same_names}
use Rattle.graphql_values.proofs.comparisons.TypeEquality.{types_decide}
use Rattle.graphql_values.specs.trees.DefinitionTrees.{input_value_definition_tree}
use Rattle.graphql_values.specs.contracts.directive_list.DirectiveListPartialEq.TheImpl as directive_list
use Rattle.graphql_values.specs.contracts.input_value_definition.InputValueDefinitionPartialEq.TheImpl as input
use Rattle.graphql_values.specs.contracts.operation_type.OperationTypePartialEq.TheImpl as operation_type
use Rattle.graphql_values.specs.declared.directive_list.DirectiveList.{DirectiveList}
use Rattle.graphql_values.specs.declared.operation_type.OperationType.{OperationType}
use Rattle.graphql_text.specs.trees.Leaves.{node_trees, name_trees}
use Rattle.graphql_type_system.specs.trees.TypeSystemTrees as trees
use Rattle.graphql_type_system.specs.trees.TypeSystemTrees.{braced_type_tree, enum_value_definition_tree, field_definition_tree}
use Rattle.graphql_type_system.specs.trees.TypeSystemTrees.{implementing_type_tree, root_operation_tree, scalar_type_tree, schema_tree}
use Rattle.graphql_type_system.specs.trees.TypeSystemTrees.{union_type_tree}
use Rattle.graphql_type_system.specs.contracts.enum_type.EnumTypeDefinitionPartialEq.TheImpl as enum_type_definition
use Rattle.graphql_type_system.specs.contracts.enum_type.EnumTypeExtensionPartialEq.TheImpl as enum_type_extension
use Rattle.graphql_type_system.specs.contracts.enum_value_definition.EnumValueDefinitionPartialEq.TheImpl as enum_value_definition
use Rattle.graphql_type_system.specs.contracts.field_definition.FieldDefinitionPartialEq.TheImpl as field_definition
use Rattle.graphql_type_system.specs.contracts.input_object_type.InputObjectTypeDefinitionPartialEq.TheImpl as input_object_type_definition
use Rattle.graphql_type_system.specs.contracts.input_object_type.InputObjectTypeExtensionPartialEq.TheImpl as input_object_type_extension
use Rattle.graphql_type_system.specs.contracts.interface_type.InterfaceTypeDefinitionPartialEq.TheImpl as interface_type_definition
use Rattle.graphql_type_system.specs.contracts.interface_type.InterfaceTypeExtensionPartialEq.TheImpl as interface_type_extension
use Rattle.graphql_type_system.specs.contracts.object_type.ObjectTypeDefinitionPartialEq.TheImpl as object_type_definition
use Rattle.graphql_type_system.specs.contracts.object_type.ObjectTypeExtensionPartialEq.TheImpl as object_type_extension
use Rattle.graphql_type_system.specs.contracts.scalar_type.ScalarTypeDefinitionPartialEq.TheImpl as scalar_type_definition
use Rattle.graphql_type_system.specs.contracts.scalar_type.ScalarTypeExtensionPartialEq.TheImpl as scalar_type_extension
use Rattle.graphql_type_system.specs.contracts.schema.SchemaDefinitionPartialEq.TheImpl as schema_definition
use Rattle.graphql_type_system.specs.contracts.schema.SchemaExtensionPartialEq.TheImpl as schema_extension
use Rattle.graphql_type_system.specs.contracts.union_type.UnionTypeDefinitionPartialEq.TheImpl as union_type_definition
use Rattle.graphql_type_system.specs.contracts.union_type.UnionTypeExtensionPartialEq.TheImpl as union_type_extension
use Rattle.graphql_type_system.specs.declared.enum_type.EnumTypeDefinition.{EnumTypeDefinition}
use Rattle.graphql_type_system.specs.declared.enum_type.EnumTypeExtension.{EnumTypeExtension}
use Rattle.graphql_type_system.specs.declared.enum_value_definition.EnumValueDefinition.{EnumValueDefinition}
use Rattle.graphql_type_system.specs.declared.field_definition.FieldDefinition.{FieldDefinition}
use Rattle.graphql_type_system.specs.declared.input_object_type.InputObjectTypeDefinition.{InputObjectTypeDefinition}
use Rattle.graphql_type_system.specs.declared.input_object_type.InputObjectTypeExtension.{InputObjectTypeExtension}
use Rattle.graphql_type_system.specs.declared.interface_type.InterfaceTypeDefinition.{InterfaceTypeDefinition}
use Rattle.graphql_type_system.specs.declared.interface_type.InterfaceTypeExtension.{InterfaceTypeExtension}
use Rattle.graphql_type_system.specs.declared.object_type.ObjectTypeDefinition.{ObjectTypeDefinition}
use Rattle.graphql_type_system.specs.declared.object_type.ObjectTypeExtension.{ObjectTypeExtension}
use Rattle.graphql_type_system.specs.declared.scalar_type.ScalarTypeDefinition.{ScalarTypeDefinition}
use Rattle.graphql_type_system.specs.declared.scalar_type.ScalarTypeExtension.{ScalarTypeExtension}
use Rattle.graphql_type_system.specs.declared.schema.SchemaDefinition.{SchemaDefinition}
use Rattle.graphql_type_system.specs.declared.schema.SchemaExtension.{SchemaExtension}
use Rattle.graphql_type_system.specs.declared.union_type.UnionTypeDefinition.{UnionTypeDefinition}
use Rattle.graphql_type_system.specs.declared.union_type.UnionTypeExtension.{UnionTypeExtension}

-- PIECES

name_lists_decide : (xs ys : List Name) → Decides (pointwise same_names xs ys) (name_trees xs ≡ name_trees ys)
name_lists_decide = lists_decide same_names name_tree names_decide

-- MEMBERS

pub field_definitions_decide : (a b : FieldDefinition) → Decides (field_definition.ghosts.eq a b) (field_definition_tree a ≡ field_definition_tree b)
field_definitions_decide a b = described_decide a.description b.description (field_definition_tree a).body (field_definition_tree b).body (
    both _ _ (names_decide a.name b.name) (both _ _
    (nodes_decide input.ghosts.eq input_value_definition_tree input_value_definitions_decide a.arguments.items b.arguments.items)
    (both _ _ (types_decide a.ty b.ty) (directive_lists_decide a.directives b.directives) (λ e. e) (λ p q. (p, q))) (λ e. e) (λ p q. (p, q)))
    (λ e. (ap (λ t. t.name) e, (ap (λ t. t.arguments) e, (ap (λ t. t.type) e, ap (λ t. t.directives) e))))
    (λ p q. λ i. record { name = p i; arguments = q.0 i; type = q.1.0 i; directives = q.1.1 i }))

pub enum_value_definitions_decide : (a b : EnumValueDefinition) →
    Decides (enum_value_definition.ghosts.eq a b) (enum_value_definition_tree a ≡ enum_value_definition_tree b)
enum_value_definitions_decide a b = described_decide a.description b.description (enum_value_definition_tree a).body (enum_value_definition_tree b).body (
    both _ _ (names_decide a.value b.value) (directive_lists_decide a.directives b.directives)
    (λ e. (ap (λ t. t.value) e, ap (λ t. t.directives) e)) (λ p q. λ i. record { value = p i; directives = q i }))

root_operations_decide : (a b : OperationType × Name) →
    Decides (operation_type.ghosts.eq a.0 b.0 && same_names a.1 b.1) (root_operation_tree a ≡ root_operation_tree b)
root_operations_decide a b =
    both _ _ (operation_types_decide a.0 b.0) (names_decide a.1 b.1)
    (λ e. (ap (λ t. t.operation_type) e, ap (λ t. t.type) e)) (λ p q. λ i. record { operation_type = p i; type = q i })

-- WHAT A DEFINITION AND AN EXTENSION SHARE

scalar_types_decide : (n m : Name) (d e : DirectiveList) →
    Decides (same_names n m && directive_list.ghosts.eq d e) (scalar_type_tree n d ≡ scalar_type_tree m e)
scalar_types_decide n m d e =
    both _ _ (names_decide n m) (directive_lists_decide d e) (λ e. (ap (λ t. t.name) e, ap (λ t. t.directives) e))
    (λ p q. λ i. record { name = p i; directives = q i })

implementing_types_decide : (n m : Name) (is js : List Name) (d e : DirectiveList) (fs gs : List (Node FieldDefinition)) →
    Decides (same_names n m && (pointwise same_names is js && (directive_list.ghosts.eq d e && same_nodes field_definition.ghosts.eq fs gs)))
    (implementing_type_tree n is d fs ≡ implementing_type_tree m js e gs)
implementing_types_decide n m is js d e fs gs =
    both _ _ (names_decide n m) (both _ _ (name_lists_decide is js) (both _ _ (directive_lists_decide d e)
    (nodes_decide field_definition.ghosts.eq field_definition_tree field_definitions_decide fs gs) (λ e. e) (λ p q. (p, q))) (λ e. e) (λ p q. (p, q)))
    (λ e. (ap (λ t. t.name) e, (ap (λ t. t.interfaces) e, (ap (λ t. t.directives) e, ap (λ t. t.fields) e))))
    (λ p q. λ i. record { name = p i; interfaces = q.0 i; directives = q.1.0 i; fields = q.1.1 i })

union_types_decide : (n m : Name) (d e : DirectiveList) (xs ys : List Name) →
    Decides (same_names n m && (directive_list.ghosts.eq d e && pointwise same_names xs ys)) (union_type_tree n d xs ≡ union_type_tree m e ys)
union_types_decide n m d e xs ys =
    both _ _ (names_decide n m) (both _ _ (directive_lists_decide d e) (name_lists_decide xs ys) (λ e. e) (λ p q. (p, q)))
    (λ e. (ap (λ t. t.name) e, (ap (λ t. t.directives) e, ap (λ t. t.members) e)))
    (λ p q. λ i. record { name = p i; directives = q.0 i; members = q.1 i })

braced_types_decide : {M Tree : Type 0} (same : M → M → Bool) (tree : M → Tree) → ((a b : M) → Decides (same a b) (tree a ≡ tree b)) →
    (n m : Name) (d e : DirectiveList) (xs ys : List (Node M)) →
    Decides (same_names n m && (directive_list.ghosts.eq d e && same_nodes same xs ys))
    (braced_type_tree n d (node_trees tree xs) ≡ braced_type_tree m e (node_trees tree ys))
braced_types_decide same tree decides n m d e xs ys =
    both _ _ (names_decide n m) (both _ _ (directive_lists_decide d e) (nodes_decide same tree decides xs ys) (λ e. e) (λ p q. (p, q)))
    (λ e. (ap (λ t. t.name) e, (ap (λ t. t.directives) e, ap (λ t. t.members) e)))
    (λ p q. λ i. record { name = p i; directives = q.0 i; members = q.1 i })

schemas_decide : (d e : DirectiveList) (xs ys : List (Node (OperationType × Name))) →
    Decides (directive_list.ghosts.eq d e && same_nodes (λ a b. operation_type.ghosts.eq a.0 b.0 && same_names a.1 b.1) xs ys)
    (schema_tree d xs ≡ schema_tree e ys)
schemas_decide d e xs ys =
    both _ _ (directive_lists_decide d e)
    (nodes_decide (λ a b. operation_type.ghosts.eq a.0 b.0 && same_names a.1 b.1) root_operation_tree root_operations_decide xs ys)
    (λ e. (ap (λ t. t.directives) e, ap (λ t. t.root_operations) e)) (λ p q. λ i. record { directives = p i; root_operations = q i })

-- DEFINITIONS AND EXTENSIONS

pub schema_definitions_decide : (a b : SchemaDefinition) →
    Decides (schema_definition.ghosts.eq a b) (trees.schema_definition_tree a ≡ trees.schema_definition_tree b)
schema_definitions_decide a b =
    described_decide a.description b.description (trees.schema_definition_tree a).body (trees.schema_definition_tree b).body
    (schemas_decide a.directives b.directives a.root_operations.items b.root_operations.items)

pub schema_extensions_decide : (a b : SchemaExtension) →
    Decides (schema_extension.ghosts.eq a b) (trees.schema_extension_tree a ≡ trees.schema_extension_tree b)
schema_extensions_decide a b = schemas_decide a.directives b.directives a.root_operations.items b.root_operations.items

pub scalar_type_definitions_decide : (a b : ScalarTypeDefinition) →
    Decides (scalar_type_definition.ghosts.eq a b) (trees.scalar_type_definition_tree a ≡ trees.scalar_type_definition_tree b)
scalar_type_definitions_decide a b =
    described_decide a.description b.description (trees.scalar_type_definition_tree a).body (trees.scalar_type_definition_tree b).body
    (scalar_types_decide a.name b.name a.directives b.directives)

pub scalar_type_extensions_decide : (a b : ScalarTypeExtension) →
    Decides (scalar_type_extension.ghosts.eq a b) (trees.scalar_type_extension_tree a ≡ trees.scalar_type_extension_tree b)
scalar_type_extensions_decide a b = scalar_types_decide a.name b.name a.directives b.directives

pub object_type_definitions_decide : (a b : ObjectTypeDefinition) →
    Decides (object_type_definition.ghosts.eq a b) (trees.object_type_definition_tree a ≡ trees.object_type_definition_tree b)
object_type_definitions_decide a b =
    described_decide a.description b.description (trees.object_type_definition_tree a).body (trees.object_type_definition_tree b).body
    (implementing_types_decide a.name b.name a.implements_interfaces.items b.implements_interfaces.items a.directives b.directives
    a.fields.items b.fields.items)

pub object_type_extensions_decide : (a b : ObjectTypeExtension) →
    Decides (object_type_extension.ghosts.eq a b) (trees.object_type_extension_tree a ≡ trees.object_type_extension_tree b)
object_type_extensions_decide a b =
    implementing_types_decide a.name b.name a.implements_interfaces.items b.implements_interfaces.items a.directives b.directives
    a.fields.items b.fields.items

pub interface_type_definitions_decide : (a b : InterfaceTypeDefinition) →
    Decides (interface_type_definition.ghosts.eq a b) (trees.interface_type_definition_tree a ≡ trees.interface_type_definition_tree b)
interface_type_definitions_decide a b =
    described_decide a.description b.description (trees.interface_type_definition_tree a).body (trees.interface_type_definition_tree b).body
    (implementing_types_decide a.name b.name a.implements_interfaces.items b.implements_interfaces.items a.directives b.directives
    a.fields.items b.fields.items)

pub interface_type_extensions_decide : (a b : InterfaceTypeExtension) →
    Decides (interface_type_extension.ghosts.eq a b) (trees.interface_type_extension_tree a ≡ trees.interface_type_extension_tree b)
interface_type_extensions_decide a b =
    implementing_types_decide a.name b.name a.implements_interfaces.items b.implements_interfaces.items a.directives b.directives
    a.fields.items b.fields.items

pub union_type_definitions_decide : (a b : UnionTypeDefinition) →
    Decides (union_type_definition.ghosts.eq a b) (trees.union_type_definition_tree a ≡ trees.union_type_definition_tree b)
union_type_definitions_decide a b =
    described_decide a.description b.description (trees.union_type_definition_tree a).body (trees.union_type_definition_tree b).body
    (union_types_decide a.name b.name a.directives b.directives a.members.items b.members.items)

pub union_type_extensions_decide : (a b : UnionTypeExtension) →
    Decides (union_type_extension.ghosts.eq a b) (trees.union_type_extension_tree a ≡ trees.union_type_extension_tree b)
union_type_extensions_decide a b = union_types_decide a.name b.name a.directives b.directives a.members.items b.members.items

pub enum_type_definitions_decide : (a b : EnumTypeDefinition) →
    Decides (enum_type_definition.ghosts.eq a b) (trees.enum_type_definition_tree a ≡ trees.enum_type_definition_tree b)
enum_type_definitions_decide a b =
    described_decide a.description b.description (trees.enum_type_definition_tree a).body (trees.enum_type_definition_tree b).body
    (braced_types_decide enum_value_definition.ghosts.eq enum_value_definition_tree enum_value_definitions_decide a.name b.name
    a.directives b.directives a.values.items b.values.items)

pub enum_type_extensions_decide : (a b : EnumTypeExtension) →
    Decides (enum_type_extension.ghosts.eq a b) (trees.enum_type_extension_tree a ≡ trees.enum_type_extension_tree b)
enum_type_extensions_decide a b =
    braced_types_decide enum_value_definition.ghosts.eq enum_value_definition_tree enum_value_definitions_decide a.name b.name a.directives
    b.directives a.values.items b.values.items

pub input_object_type_definitions_decide : (a b : InputObjectTypeDefinition) →
    Decides (input_object_type_definition.ghosts.eq a b)
    (trees.input_object_type_definition_tree a ≡ trees.input_object_type_definition_tree b)
input_object_type_definitions_decide a b =
    described_decide a.description b.description (trees.input_object_type_definition_tree a).body
    (trees.input_object_type_definition_tree b).body
    (braced_types_decide input.ghosts.eq input_value_definition_tree input_value_definitions_decide a.name b.name a.directives
    b.directives a.fields.items b.fields.items)

pub input_object_type_extensions_decide : (a b : InputObjectTypeExtension) →
    Decides (input_object_type_extension.ghosts.eq a b)
    (trees.input_object_type_extension_tree a ≡ trees.input_object_type_extension_tree b)
input_object_type_extensions_decide a b =
    braced_types_decide input.ghosts.eq input_value_definition_tree input_value_definitions_decide a.name b.name a.directives b.directives
    a.fields.items b.fields.items
