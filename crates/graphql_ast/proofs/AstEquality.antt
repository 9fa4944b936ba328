-- What the derived `==` of definitions and documents decides: whether their trees are the same.
use Rattle.std.proofs.Common.{◌≡◌, Bool, ap}
use Rattle.std.specs.Bool.{Decides}
use Rattle.graphql_executable.proofs.comparisons.ExecutableEquality.{operation_definitions_decide, fragment_definitions_decide}
use Rattle.graphql_type_system.proofs.TypeSystemEquality.{schema_definitions_decide, scalar_type_definitions_decide}
use Rattle.graphql_type_system.proofs.TypeSystemEquality.{object_type_definitions_decide, interface_type_definitions_decide}
use Rattle.graphql_type_system.proofs.TypeSystemEquality.{union_type_definitions_decide, enum_type_definitions_decide}
use Rattle.graphql_type_system.proofs.TypeSystemEquality.{input_object_type_definitions_decide, schema_extensions_decide}
use Rattle.graphql_type_system.proofs.TypeSystemEquality.{scalar_type_extensions_decide, object_type_extensions_decide}
use Rattle.graphql_type_system.proofs.TypeSystemEquality.{interface_type_extensions_decide, union_type_extensions_decide}
use Rattle.graphql_type_system.proofs.TypeSystemEquality.{enum_type_extensions_decide, input_object_type_extensions_decide}
use Rattle.graphql_values.proofs.comparisons.DefinitionEquality.{directive_definitions_decide}
use Rattle.graphql_values.proofs.comparisons.DirectiveEquality.{lists_decide}
use Rattle.graphql_values.proofs.comparisons.ValueEquality.{through, never}
use Rattle.graphql_ast.specs.AstTrees.{definition_tree, document_tree}
use Rattle.graphql_ast.specs.Definitions.{DefinitionName, DefinitionTree, kind_named}
use Rattle.graphql_ast.specs.Definitions as name
use Rattle.graphql_ast.specs.contracts.definition.DefinitionPartialEq.TheImpl as definition
use Rattle.graphql_ast.specs.contracts.document.DocumentPartialEq.TheImpl as document
use Rattle.graphql_ast.specs.declared.definition.Definition.{Definition}
use Rattle.graphql_ast.specs.declared.definition.Definition.TheVariants as variant
use Rattle.graphql_ast.specs.declared.document.Document.{Document}

abbrev tree_of : (k : DefinitionName) → (kind_named k).Tree → DefinitionTree
tree_of k tree = record { name = k; tree = tree }

-- the tree of another definition, if that is of the same kind
abbrev tree_in : (k n : DefinitionName) → (kind_named k).Tree → (kind_named n).Tree → (kind_named k).Tree
tree_in name.OperationDefinition name.OperationDefinition tree other = other
tree_in name.FragmentDefinition name.FragmentDefinition tree other = other
tree_in name.DirectiveDefinition name.DirectiveDefinition tree other = other
tree_in name.SchemaDefinition name.SchemaDefinition tree other = other
tree_in name.ScalarTypeDefinition name.ScalarTypeDefinition tree other = other
tree_in name.ObjectTypeDefinition name.ObjectTypeDefinition tree other = other
tree_in name.InterfaceTypeDefinition name.InterfaceTypeDefinition tree other = other
tree_in name.UnionTypeDefinition name.UnionTypeDefinition tree other = other
tree_in name.EnumTypeDefinition name.EnumTypeDefinition tree other = other
tree_in name.InputObjectTypeDefinition name.InputObjectTypeDefinition tree other = other
tree_in name.SchemaExtension name.SchemaExtension tree other = other
tree_in name.ScalarTypeExtension name.ScalarTypeExtension tree other = other
tree_in name.ObjectTypeExtension name.ObjectTypeExtension tree other = other
tree_in name.InterfaceTypeExtension name.InterfaceTypeExtension tree other = other
tree_in name.UnionTypeExtension name.UnionTypeExtension tree other = other
tree_in name.EnumTypeExtension name.EnumTypeExtension tree other = other
tree_in name.InputObjectTypeExtension name.InputObjectTypeExtension tree other = other
tree_in k n tree other = tree

same_trees : (k : DefinitionName) (x y : (kind_named k).Tree) → tree_of k x ≡ tree_of k y → x ≡ y
same_trees name.OperationDefinition x y e = ap (λ t. tree_in name.OperationDefinition t.name y t.tree) e
same_trees name.FragmentDefinition x y e = ap (λ t. tree_in name.FragmentDefinition t.name y t.tree) e
same_trees name.DirectiveDefinition x y e = ap (λ t. tree_in name.DirectiveDefinition t.name y t.tree) e
same_trees name.SchemaDefinition x y e = ap (λ t. tree_in name.SchemaDefinition t.name y t.tree) e
same_trees name.ScalarTypeDefinition x y e = ap (λ t. tree_in name.ScalarTypeDefinition t.name y t.tree) e
same_trees name.ObjectTypeDefinition x y e = ap (λ t. tree_in name.ObjectTypeDefinition t.name y t.tree) e
same_trees name.InterfaceTypeDefinition x y e = ap (λ t. tree_in name.InterfaceTypeDefinition t.name y t.tree) e
same_trees name.UnionTypeDefinition x y e = ap (λ t. tree_in name.UnionTypeDefinition t.name y t.tree) e
same_trees name.EnumTypeDefinition x y e = ap (λ t. tree_in name.EnumTypeDefinition t.name y t.tree) e
same_trees name.InputObjectTypeDefinition x y e = ap (λ t. tree_in name.InputObjectTypeDefinition t.name y t.tree) e
same_trees name.SchemaExtension x y e = ap (λ t. tree_in name.SchemaExtension t.name y t.tree) e
same_trees name.ScalarTypeExtension x y e = ap (λ t. tree_in name.ScalarTypeExtension t.name y t.tree) e
same_trees name.ObjectTypeExtension x y e = ap (λ t. tree_in name.ObjectTypeExtension t.name y t.tree) e
same_trees name.InterfaceTypeExtension x y e = ap (λ t. tree_in name.InterfaceTypeExtension t.name y t.tree) e
same_trees name.UnionTypeExtension x y e = ap (λ t. tree_in name.UnionTypeExtension t.name y t.tree) e
same_trees name.EnumTypeExtension x y e = ap (λ t. tree_in name.EnumTypeExtension t.name y t.tree) e
same_trees name.InputObjectTypeExtension x y e = ap (λ t. tree_in name.InputObjectTypeExtension t.name y t.tree) e

decided : (k : DefinitionName) {a : Bool} (x y : (kind_named k).Tree) → Decides a (x ≡ y) → Decides a (tree_of k x ≡ tree_of k y)
decided k x y d = through d (same_trees k x y) (ap (tree_of k))

pub definitions_decide : (a b : Definition) → Decides (definition.ghosts.eq a b) (definition_tree a ≡ definition_tree b)
definitions_decide (variant.OperationDefinition n) (variant.OperationDefinition m) =
    decided name.OperationDefinition _ _ (operation_definitions_decide n.value m.value)
definitions_decide (variant.FragmentDefinition n) (variant.FragmentDefinition m) =
    decided name.FragmentDefinition _ _ (fragment_definitions_decide n.value m.value)
definitions_decide (variant.DirectiveDefinition n) (variant.DirectiveDefinition m) =
    decided name.DirectiveDefinition _ _ (directive_definitions_decide n.value m.value)
definitions_decide (variant.SchemaDefinition n) (variant.SchemaDefinition m) = decided name.SchemaDefinition _ _ (schema_definitions_decide n.value m.value)
definitions_decide (variant.ScalarTypeDefinition n) (variant.ScalarTypeDefinition m) =
    decided name.ScalarTypeDefinition _ _ (scalar_type_definitions_decide n.value m.value)
definitions_decide (variant.ObjectTypeDefinition n) (variant.ObjectTypeDefinition m) =
    decided name.ObjectTypeDefinition _ _ (object_type_definitions_decide n.value m.value)
definitions_decide (variant.InterfaceTypeDefinition n) (variant.InterfaceTypeDefinition m) =
    decided name.InterfaceTypeDefinition _ _ (interface_type_definitions_decide n.value m.value)
definitions_decide (variant.UnionTypeDefinition n) (variant.UnionTypeDefinition m) =
    decided name.UnionTypeDefinition _ _ (union_type_definitions_decide n.value m.value)
definitions_decide (variant.EnumTypeDefinition n) (variant.EnumTypeDefinition m) =
    decided name.EnumTypeDefinition _ _ (enum_type_definitions_decide n.value m.value)
definitions_decide (variant.InputObjectTypeDefinition n) (variant.InputObjectTypeDefinition m) =
    decided name.InputObjectTypeDefinition _ _ (input_object_type_definitions_decide n.value m.value)
definitions_decide (variant.SchemaExtension n) (variant.SchemaExtension m) = decided name.SchemaExtension _ _ (schema_extensions_decide n.value m.value)
definitions_decide (variant.ScalarTypeExtension n) (variant.ScalarTypeExtension m) =
    decided name.ScalarTypeExtension _ _ (scalar_type_extensions_decide n.value m.value)
definitions_decide (variant.ObjectTypeExtension n) (variant.ObjectTypeExtension m) =
    decided name.ObjectTypeExtension _ _ (object_type_extensions_decide n.value m.value)
definitions_decide (variant.InterfaceTypeExtension n) (variant.InterfaceTypeExtension m) =
    decided name.InterfaceTypeExtension _ _ (interface_type_extensions_decide n.value m.value)
definitions_decide (variant.UnionTypeExtension n) (variant.UnionTypeExtension m) =
    decided name.UnionTypeExtension _ _ (union_type_extensions_decide n.value m.value)
definitions_decide (variant.EnumTypeExtension n) (variant.EnumTypeExtension m) =
    decided name.EnumTypeExtension _ _ (enum_type_extensions_decide n.value m.value)
definitions_decide (variant.InputObjectTypeExtension n) (variant.InputObjectTypeExtension m) =
    decided name.InputObjectTypeExtension _ _ (input_object_type_extensions_decide n.value m.value)
definitions_decide a b = never (λ e. let names = ap (λ t. t.name) e in cc)

pub documents_decide : (a b : Document) → Decides (document.ghosts.eq a b) (document_tree a ≡ document_tree b)
documents_decide a b = lists_decide definition.ghosts.eq definition_tree definitions_decide a.definitions.items b.definitions.items
