use Rattle.std.proofs.Common.{refl}
use Rattle.graphql_values.specs.trees.DefinitionTrees.{directive_definition_tree}
use Rattle.graphql_executable.specs.trees.ExecutableTrees.{fragment_definition_tree, operation_definition_tree}
use Rattle.graphql_type_system.specs.trees.TypeSystemTrees.{enum_type_definition_tree, enum_type_extension_tree, input_object_type_definition_tree}
use Rattle.graphql_type_system.specs.trees.TypeSystemTrees.{input_object_type_extension_tree, interface_type_definition_tree, interface_type_extension_tree}
use Rattle.graphql_type_system.specs.trees.TypeSystemTrees.{object_type_definition_tree, object_type_extension_tree, scalar_type_definition_tree}
use Rattle.graphql_type_system.specs.trees.TypeSystemTrees.{scalar_type_extension_tree, schema_definition_tree, schema_extension_tree}
use Rattle.graphql_type_system.specs.trees.TypeSystemTrees.{union_type_definition_tree, union_type_extension_tree}
use Rattle.graphql_ast.specs.Definitions as name
use Rattle.graphql_ast.specs.declared.definition.Definition.TheVariants as variant
use Rattle.graphql_rewrite.proofs.DefinitionsMade.{is_made, stays}
use Rattle.graphql_rewrite.proofs.documents.DefinitionRebuild.rebuild.Goals as goal

pub returns-in-Some : goal.returns-in-Some
returns-in-Some g c =
    is_made (g.R.Rewriter.rewriting c.args.rewriter.now) name.OperationDefinition operation_definition_tree variant.OperationDefinition (λ node. refl)
    (λ node. refl) c.args.self.now c.in-OperationDefinition.node c.in-Some.made _ c.in-OperationDefinition.is
    c.in_ok-made-in-OperationDefinition.ensures.tree c.in_ok-made-in-OperationDefinition.ensures.location c.in-Some.is

pub returns-in-None : goal.returns-in-None
returns-in-None g c =
    stays (g.R.Rewriter.rewriting c.args.rewriter.now) name.OperationDefinition operation_definition_tree variant.OperationDefinition (λ node. refl)
    (λ node. refl) c.args.self.now c.in-OperationDefinition.node _ c.in-OperationDefinition.is c.in_ok-made-in-OperationDefinition.ensures.tree
    c.in-None.is

pub returns-in-Some-2 : goal.returns-in-Some-2
returns-in-Some-2 g c =
    is_made (g.R.Rewriter.rewriting c.args.rewriter.now) name.FragmentDefinition fragment_definition_tree variant.FragmentDefinition (λ node. refl)
    (λ node. refl) c.args.self.now c.in-FragmentDefinition.node c.in-Some-2.made _ c.in-FragmentDefinition.is
    c.in_ok-made-in-FragmentDefinition.ensures.tree c.in_ok-made-in-FragmentDefinition.ensures.location c.in-Some-2.is

pub returns-in-None-2 : goal.returns-in-None-2
returns-in-None-2 g c =
    stays (g.R.Rewriter.rewriting c.args.rewriter.now) name.FragmentDefinition fragment_definition_tree variant.FragmentDefinition (λ node. refl)
    (λ node. refl) c.args.self.now c.in-FragmentDefinition.node _ c.in-FragmentDefinition.is c.in_ok-made-in-FragmentDefinition.ensures.tree
    c.in-None-2.is

pub returns-in-Some-3 : goal.returns-in-Some-3
returns-in-Some-3 g c =
    is_made (g.R.Rewriter.rewriting c.args.rewriter.now) name.DirectiveDefinition directive_definition_tree variant.DirectiveDefinition (λ node. refl)
    (λ node. refl) c.args.self.now c.in-DirectiveDefinition.node c.in-Some-3.made _ c.in-DirectiveDefinition.is
    c.in_ok-made-in-DirectiveDefinition.ensures.tree c.in_ok-made-in-DirectiveDefinition.ensures.location c.in-Some-3.is

pub returns-in-None-3 : goal.returns-in-None-3
returns-in-None-3 g c =
    stays (g.R.Rewriter.rewriting c.args.rewriter.now) name.DirectiveDefinition directive_definition_tree variant.DirectiveDefinition (λ node. refl)
    (λ node. refl) c.args.self.now c.in-DirectiveDefinition.node _ c.in-DirectiveDefinition.is c.in_ok-made-in-DirectiveDefinition.ensures.tree
    c.in-None-3.is

pub returns-in-Some-4 : goal.returns-in-Some-4
returns-in-Some-4 g c =
    is_made (g.R.Rewriter.rewriting c.args.rewriter.now) name.SchemaDefinition schema_definition_tree variant.SchemaDefinition (λ node. refl)
    (λ node. refl) c.args.self.now c.in-SchemaDefinition.node c.in-Some-4.made _ c.in-SchemaDefinition.is
    c.in_ok-made-in-SchemaDefinition.ensures.tree c.in_ok-made-in-SchemaDefinition.ensures.location c.in-Some-4.is

pub returns-in-None-4 : goal.returns-in-None-4
returns-in-None-4 g c =
    stays (g.R.Rewriter.rewriting c.args.rewriter.now) name.SchemaDefinition schema_definition_tree variant.SchemaDefinition (λ node. refl)
    (λ node. refl) c.args.self.now c.in-SchemaDefinition.node _ c.in-SchemaDefinition.is c.in_ok-made-in-SchemaDefinition.ensures.tree c.in-None-4.is

pub returns-in-Some-5 : goal.returns-in-Some-5
returns-in-Some-5 g c =
    is_made (g.R.Rewriter.rewriting c.args.rewriter.now) name.ScalarTypeDefinition scalar_type_definition_tree variant.ScalarTypeDefinition
    (λ node. refl) (λ node. refl) c.args.self.now c.in-ScalarTypeDefinition.node c.in-Some-5.made _ c.in-ScalarTypeDefinition.is
    c.in_ok-made-in-ScalarTypeDefinition.ensures.tree c.in_ok-made-in-ScalarTypeDefinition.ensures.location c.in-Some-5.is

pub returns-in-None-5 : goal.returns-in-None-5
returns-in-None-5 g c =
    stays (g.R.Rewriter.rewriting c.args.rewriter.now) name.ScalarTypeDefinition scalar_type_definition_tree variant.ScalarTypeDefinition
    (λ node. refl) (λ node. refl) c.args.self.now c.in-ScalarTypeDefinition.node _ c.in-ScalarTypeDefinition.is
    c.in_ok-made-in-ScalarTypeDefinition.ensures.tree c.in-None-5.is

pub returns-in-Some-6 : goal.returns-in-Some-6
returns-in-Some-6 g c =
    is_made (g.R.Rewriter.rewriting c.args.rewriter.now) name.ObjectTypeDefinition object_type_definition_tree variant.ObjectTypeDefinition
    (λ node. refl) (λ node. refl) c.args.self.now c.in-ObjectTypeDefinition.node c.in-Some-6.made _ c.in-ObjectTypeDefinition.is
    c.in_ok-made-in-ObjectTypeDefinition.ensures.tree c.in_ok-made-in-ObjectTypeDefinition.ensures.location c.in-Some-6.is

pub returns-in-None-6 : goal.returns-in-None-6
returns-in-None-6 g c =
    stays (g.R.Rewriter.rewriting c.args.rewriter.now) name.ObjectTypeDefinition object_type_definition_tree variant.ObjectTypeDefinition
    (λ node. refl) (λ node. refl) c.args.self.now c.in-ObjectTypeDefinition.node _ c.in-ObjectTypeDefinition.is
    c.in_ok-made-in-ObjectTypeDefinition.ensures.tree c.in-None-6.is

pub returns-in-Some-7 : goal.returns-in-Some-7
returns-in-Some-7 g c =
    is_made (g.R.Rewriter.rewriting c.args.rewriter.now) name.InterfaceTypeDefinition interface_type_definition_tree variant.InterfaceTypeDefinition
    (λ node. refl) (λ node. refl) c.args.self.now c.in-InterfaceTypeDefinition.node c.in-Some-7.made _ c.in-InterfaceTypeDefinition.is
    c.in_ok-made-in-InterfaceTypeDefinition.ensures.tree c.in_ok-made-in-InterfaceTypeDefinition.ensures.location c.in-Some-7.is

pub returns-in-None-7 : goal.returns-in-None-7
returns-in-None-7 g c =
    stays (g.R.Rewriter.rewriting c.args.rewriter.now) name.InterfaceTypeDefinition interface_type_definition_tree variant.InterfaceTypeDefinition
    (λ node. refl) (λ node. refl) c.args.self.now c.in-InterfaceTypeDefinition.node _ c.in-InterfaceTypeDefinition.is
    c.in_ok-made-in-InterfaceTypeDefinition.ensures.tree c.in-None-7.is

pub returns-in-Some-8 : goal.returns-in-Some-8
returns-in-Some-8 g c =
    is_made (g.R.Rewriter.rewriting c.args.rewriter.now) name.UnionTypeDefinition union_type_definition_tree variant.UnionTypeDefinition
    (λ node. refl) (λ node. refl) c.args.self.now c.in-UnionTypeDefinition.node c.in-Some-8.made _ c.in-UnionTypeDefinition.is
    c.in_ok-made-in-UnionTypeDefinition.ensures.tree c.in_ok-made-in-UnionTypeDefinition.ensures.location c.in-Some-8.is

pub returns-in-None-8 : goal.returns-in-None-8
returns-in-None-8 g c =
    stays (g.R.Rewriter.rewriting c.args.rewriter.now) name.UnionTypeDefinition union_type_definition_tree variant.UnionTypeDefinition (λ node. refl)
    (λ node. refl) c.args.self.now c.in-UnionTypeDefinition.node _ c.in-UnionTypeDefinition.is c.in_ok-made-in-UnionTypeDefinition.ensures.tree
    c.in-None-8.is

pub returns-in-Some-9 : goal.returns-in-Some-9
returns-in-Some-9 g c =
    is_made (g.R.Rewriter.rewriting c.args.rewriter.now) name.EnumTypeDefinition enum_type_definition_tree variant.EnumTypeDefinition (λ node. refl)
    (λ node. refl) c.args.self.now c.in-EnumTypeDefinition.node c.in-Some-9.made _ c.in-EnumTypeDefinition.is
    c.in_ok-made-in-EnumTypeDefinition.ensures.tree c.in_ok-made-in-EnumTypeDefinition.ensures.location c.in-Some-9.is

pub returns-in-None-9 : goal.returns-in-None-9
returns-in-None-9 g c =
    stays (g.R.Rewriter.rewriting c.args.rewriter.now) name.EnumTypeDefinition enum_type_definition_tree variant.EnumTypeDefinition (λ node. refl)
    (λ node. refl) c.args.self.now c.in-EnumTypeDefinition.node _ c.in-EnumTypeDefinition.is c.in_ok-made-in-EnumTypeDefinition.ensures.tree
    c.in-None-9.is

pub returns-in-Some-10 : goal.returns-in-Some-10
returns-in-Some-10 g c =
    is_made (g.R.Rewriter.rewriting c.args.rewriter.now) name.InputObjectTypeDefinition input_object_type_definition_tree
    variant.InputObjectTypeDefinition (λ node. refl) (λ node. refl) c.args.self.now c.in-InputObjectTypeDefinition.node c.in-Some-10.made _
    c.in-InputObjectTypeDefinition.is c.in_ok-made-in-InputObjectTypeDefinition.ensures.tree
    c.in_ok-made-in-InputObjectTypeDefinition.ensures.location c.in-Some-10.is

pub returns-in-None-10 : goal.returns-in-None-10
returns-in-None-10 g c =
    stays (g.R.Rewriter.rewriting c.args.rewriter.now) name.InputObjectTypeDefinition input_object_type_definition_tree
    variant.InputObjectTypeDefinition (λ node. refl) (λ node. refl) c.args.self.now c.in-InputObjectTypeDefinition.node _
    c.in-InputObjectTypeDefinition.is c.in_ok-made-in-InputObjectTypeDefinition.ensures.tree c.in-None-10.is

pub returns-in-Some-11 : goal.returns-in-Some-11
returns-in-Some-11 g c =
    is_made (g.R.Rewriter.rewriting c.args.rewriter.now) name.SchemaExtension schema_extension_tree variant.SchemaExtension (λ node. refl)
    (λ node. refl) c.args.self.now c.in-SchemaExtension.node c.in-Some-11.made _ c.in-SchemaExtension.is c.in_ok-made-in-SchemaExtension.ensures.tree
    c.in_ok-made-in-SchemaExtension.ensures.location c.in-Some-11.is

pub returns-in-None-11 : goal.returns-in-None-11
returns-in-None-11 g c =
    stays (g.R.Rewriter.rewriting c.args.rewriter.now) name.SchemaExtension schema_extension_tree variant.SchemaExtension (λ node. refl)
    (λ node. refl) c.args.self.now c.in-SchemaExtension.node _ c.in-SchemaExtension.is c.in_ok-made-in-SchemaExtension.ensures.tree c.in-None-11.is

pub returns-in-Some-12 : goal.returns-in-Some-12
returns-in-Some-12 g c =
    is_made (g.R.Rewriter.rewriting c.args.rewriter.now) name.ScalarTypeExtension scalar_type_extension_tree variant.ScalarTypeExtension
    (λ node. refl) (λ node. refl) c.args.self.now c.in-ScalarTypeExtension.node c.in-Some-12.made _ c.in-ScalarTypeExtension.is
    c.in_ok-made-in-ScalarTypeExtension.ensures.tree c.in_ok-made-in-ScalarTypeExtension.ensures.location c.in-Some-12.is

pub returns-in-None-12 : goal.returns-in-None-12
returns-in-None-12 g c =
    stays (g.R.Rewriter.rewriting c.args.rewriter.now) name.ScalarTypeExtension scalar_type_extension_tree variant.ScalarTypeExtension (λ node. refl)
    (λ node. refl) c.args.self.now c.in-ScalarTypeExtension.node _ c.in-ScalarTypeExtension.is c.in_ok-made-in-ScalarTypeExtension.ensures.tree
    c.in-None-12.is

pub returns-in-Some-13 : goal.returns-in-Some-13
returns-in-Some-13 g c =
    is_made (g.R.Rewriter.rewriting c.args.rewriter.now) name.ObjectTypeExtension object_type_extension_tree variant.ObjectTypeExtension
    (λ node. refl) (λ node. refl) c.args.self.now c.in-ObjectTypeExtension.node c.in-Some-13.made _ c.in-ObjectTypeExtension.is
    c.in_ok-made-in-ObjectTypeExtension.ensures.tree c.in_ok-made-in-ObjectTypeExtension.ensures.location c.in-Some-13.is

pub returns-in-None-13 : goal.returns-in-None-13
returns-in-None-13 g c =
    stays (g.R.Rewriter.rewriting c.args.rewriter.now) name.ObjectTypeExtension object_type_extension_tree variant.ObjectTypeExtension (λ node. refl)
    (λ node. refl) c.args.self.now c.in-ObjectTypeExtension.node _ c.in-ObjectTypeExtension.is c.in_ok-made-in-ObjectTypeExtension.ensures.tree
    c.in-None-13.is

pub returns-in-Some-14 : goal.returns-in-Some-14
returns-in-Some-14 g c =
    is_made (g.R.Rewriter.rewriting c.args.rewriter.now) name.InterfaceTypeExtension interface_type_extension_tree variant.InterfaceTypeExtension
    (λ node. refl) (λ node. refl) c.args.self.now c.in-InterfaceTypeExtension.node c.in-Some-14.made _ c.in-InterfaceTypeExtension.is
    c.in_ok-made-in-InterfaceTypeExtension.ensures.tree c.in_ok-made-in-InterfaceTypeExtension.ensures.location c.in-Some-14.is

pub returns-in-None-14 : goal.returns-in-None-14
returns-in-None-14 g c =
    stays (g.R.Rewriter.rewriting c.args.rewriter.now) name.InterfaceTypeExtension interface_type_extension_tree variant.InterfaceTypeExtension
    (λ node. refl) (λ node. refl) c.args.self.now c.in-InterfaceTypeExtension.node _ c.in-InterfaceTypeExtension.is
    c.in_ok-made-in-InterfaceTypeExtension.ensures.tree c.in-None-14.is

pub returns-in-Some-15 : goal.returns-in-Some-15
returns-in-Some-15 g c =
    is_made (g.R.Rewriter.rewriting c.args.rewriter.now) name.UnionTypeExtension union_type_extension_tree variant.UnionTypeExtension (λ node. refl)
    (λ node. refl) c.args.self.now c.in-UnionTypeExtension.node c.in-Some-15.made _ c.in-UnionTypeExtension.is
    c.in_ok-made-in-UnionTypeExtension.ensures.tree c.in_ok-made-in-UnionTypeExtension.ensures.location c.in-Some-15.is

pub returns-in-None-15 : goal.returns-in-None-15
returns-in-None-15 g c =
    stays (g.R.Rewriter.rewriting c.args.rewriter.now) name.UnionTypeExtension union_type_extension_tree variant.UnionTypeExtension (λ node. refl)
    (λ node. refl) c.args.self.now c.in-UnionTypeExtension.node _ c.in-UnionTypeExtension.is c.in_ok-made-in-UnionTypeExtension.ensures.tree
    c.in-None-15.is

pub returns-in-Some-16 : goal.returns-in-Some-16
returns-in-Some-16 g c =
    is_made (g.R.Rewriter.rewriting c.args.rewriter.now) name.EnumTypeExtension enum_type_extension_tree variant.EnumTypeExtension (λ node. refl)
    (λ node. refl) c.args.self.now c.in-EnumTypeExtension.node c.in-Some-16.made _ c.in-EnumTypeExtension.is
    c.in_ok-made-in-EnumTypeExtension.ensures.tree c.in_ok-made-in-EnumTypeExtension.ensures.location c.in-Some-16.is

pub returns-in-None-16 : goal.returns-in-None-16
returns-in-None-16 g c =
    stays (g.R.Rewriter.rewriting c.args.rewriter.now) name.EnumTypeExtension enum_type_extension_tree variant.EnumTypeExtension (λ node. refl)
    (λ node. refl) c.args.self.now c.in-EnumTypeExtension.node _ c.in-EnumTypeExtension.is c.in_ok-made-in-EnumTypeExtension.ensures.tree
    c.in-None-16.is

pub returns-in-Some-17 : goal.returns-in-Some-17
returns-in-Some-17 g c =
    is_made (g.R.Rewriter.rewriting c.args.rewriter.now) name.InputObjectTypeExtension input_object_type_extension_tree
    variant.InputObjectTypeExtension (λ node. refl) (λ node. refl) c.args.self.now c.in-InputObjectTypeExtension.node c.in-Some-17.made _
    c.in-InputObjectTypeExtension.is c.in_ok-made-in-InputObjectTypeExtension.ensures.tree c.in_ok-made-in-InputObjectTypeExtension.ensures.location
    c.in-Some-17.is

pub returns-in-None-17 : goal.returns-in-None-17
returns-in-None-17 g c =
    stays (g.R.Rewriter.rewriting c.args.rewriter.now) name.InputObjectTypeExtension input_object_type_extension_tree variant.InputObjectTypeExtension
    (λ node. refl) (λ node. refl) c.args.self.now c.in-InputObjectTypeExtension.node _ c.in-InputObjectTypeExtension.is
    c.in_ok-made-in-InputObjectTypeExtension.ensures.tree c.in-None-17.is
