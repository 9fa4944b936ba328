use Rattle.graphql_visit.proofs.documents.DefinitionWalked.walk_within.Goals as goal

pub returns-in-OperationDefinition : goal.returns-in-OperationDefinition
returns-in-OperationDefinition g c = rw c.in-OperationDefinition.is c.walk_within.ensures

pub returns-in-FragmentDefinition : goal.returns-in-FragmentDefinition
returns-in-FragmentDefinition g c = rw c.in-FragmentDefinition.is c.walk_within-in-FragmentDefinition.ensures

pub returns-in-DirectiveDefinition : goal.returns-in-DirectiveDefinition
returns-in-DirectiveDefinition g c = rw c.in-DirectiveDefinition.is c.walk_within-in-DirectiveDefinition.ensures

pub returns-in-SchemaDefinition : goal.returns-in-SchemaDefinition
returns-in-SchemaDefinition g c = rw c.in-SchemaDefinition.is c.walk_within-in-SchemaDefinition.ensures

pub returns-in-ScalarTypeDefinition : goal.returns-in-ScalarTypeDefinition
returns-in-ScalarTypeDefinition g c = rw c.in-ScalarTypeDefinition.is c.walk_within-in-ScalarTypeDefinition.ensures

pub returns-in-ObjectTypeDefinition : goal.returns-in-ObjectTypeDefinition
returns-in-ObjectTypeDefinition g c = rw c.in-ObjectTypeDefinition.is c.walk_within-in-ObjectTypeDefinition.ensures

pub returns-in-InterfaceTypeDefinition : goal.returns-in-InterfaceTypeDefinition
returns-in-InterfaceTypeDefinition g c = rw c.in-InterfaceTypeDefinition.is c.walk_within-in-InterfaceTypeDefinition.ensures

pub returns-in-UnionTypeDefinition : goal.returns-in-UnionTypeDefinition
returns-in-UnionTypeDefinition g c = rw c.in-UnionTypeDefinition.is c.walk_within-in-UnionTypeDefinition.ensures

pub returns-in-EnumTypeDefinition : goal.returns-in-EnumTypeDefinition
returns-in-EnumTypeDefinition g c = rw c.in-EnumTypeDefinition.is c.walk_within-in-EnumTypeDefinition.ensures

pub returns-in-InputObjectTypeDefinition : goal.returns-in-InputObjectTypeDefinition
returns-in-InputObjectTypeDefinition g c = rw c.in-InputObjectTypeDefinition.is c.walk_within-in-InputObjectTypeDefinition.ensures

pub returns-in-SchemaExtension : goal.returns-in-SchemaExtension
returns-in-SchemaExtension g c = rw c.in-SchemaExtension.is c.walk_within-in-SchemaExtension.ensures

pub returns-in-ScalarTypeExtension : goal.returns-in-ScalarTypeExtension
returns-in-ScalarTypeExtension g c = rw c.in-ScalarTypeExtension.is c.walk_within-in-ScalarTypeExtension.ensures

pub returns-in-ObjectTypeExtension : goal.returns-in-ObjectTypeExtension
returns-in-ObjectTypeExtension g c = rw c.in-ObjectTypeExtension.is c.walk_within-in-ObjectTypeExtension.ensures

pub returns-in-InterfaceTypeExtension : goal.returns-in-InterfaceTypeExtension
returns-in-InterfaceTypeExtension g c = rw c.in-InterfaceTypeExtension.is c.walk_within-in-InterfaceTypeExtension.ensures

pub returns-in-UnionTypeExtension : goal.returns-in-UnionTypeExtension
returns-in-UnionTypeExtension g c = rw c.in-UnionTypeExtension.is c.walk_within-in-UnionTypeExtension.ensures

pub returns-in-EnumTypeExtension : goal.returns-in-EnumTypeExtension
returns-in-EnumTypeExtension g c = rw c.in-EnumTypeExtension.is c.walk_within-in-EnumTypeExtension.ensures

pub returns-in-InputObjectTypeExtension : goal.returns-in-InputObjectTypeExtension
returns-in-InputObjectTypeExtension g c = rw c.in-InputObjectTypeExtension.is c.walk_within-in-InputObjectTypeExtension.ensures
