use Rattle.std.proofs.Common.{◌≡◌, ℕ, List, subst, sym}
use Rattle.graphql_ast.specs.AstTrees.{definition_tree}
use Rattle.graphql_ast.specs.DefinitionQueries.{definition_location}
use Rattle.graphql_ast.specs.declared.definition.Definition.{Definition}
use Rattle.ast_json_nodes.specs.code.NodeReading.{StandsAt}
use Rattle.ast_json_nodes.specs.declared.read.Unknown.{Unknown}
use Rattle.graphql_ast_json.specs.kinds.DocumentJson.{IsAnyDefinition}
use Rattle.json_text.specs.Texts.{WritesJson}
use Rattle.ast_json_text.proofs.definition.DefinitionWriteAstJson.write_ast_json.Goals as goal

-- what is written of a definition under its variant is written of it
as_variant : {O : Type 0} {wrote : O → List ℕ → O → Type 0} {a b : O} {definition variant : Definition} → definition ≡ variant →
    WritesJson wrote a b (λ json. ((unknown : Unknown) → IsAnyDefinition unknown (definition_tree variant) json) × StandsAt (definition_location variant)
    json) →
    WritesJson wrote a b (λ json. ((unknown : Unknown) → IsAnyDefinition unknown (definition_tree definition) json) × StandsAt (definition_location
    definition) json)
as_variant {wrote = wrote} {a = a} {b = b} is =
    subst (λ d. WritesJson wrote a b (λ json. ((unknown : Unknown) → IsAnyDefinition unknown (definition_tree d) json) × StandsAt (definition_location d)
    json)) (sym is)

pub returns-in-OperationDefinition : goal.returns-in-OperationDefinition
returns-in-OperationDefinition g c = as_variant c.in-OperationDefinition.is c.write_ast_json.ensures

pub returns-in-FragmentDefinition : goal.returns-in-FragmentDefinition
returns-in-FragmentDefinition g c = as_variant c.in-FragmentDefinition.is c.write_ast_json-in-FragmentDefinition.ensures

pub returns-in-DirectiveDefinition : goal.returns-in-DirectiveDefinition
returns-in-DirectiveDefinition g c = as_variant c.in-DirectiveDefinition.is c.write_ast_json-in-DirectiveDefinition.ensures

pub returns-in-SchemaDefinition : goal.returns-in-SchemaDefinition
returns-in-SchemaDefinition g c = as_variant c.in-SchemaDefinition.is c.write_ast_json-in-SchemaDefinition.ensures

pub returns-in-ScalarTypeDefinition : goal.returns-in-ScalarTypeDefinition
returns-in-ScalarTypeDefinition g c = as_variant c.in-ScalarTypeDefinition.is c.write_ast_json-in-ScalarTypeDefinition.ensures

pub returns-in-ObjectTypeDefinition : goal.returns-in-ObjectTypeDefinition
returns-in-ObjectTypeDefinition g c = as_variant c.in-ObjectTypeDefinition.is c.write_ast_json-in-ObjectTypeDefinition.ensures

pub returns-in-InterfaceTypeDefinition : goal.returns-in-InterfaceTypeDefinition
returns-in-InterfaceTypeDefinition g c = as_variant c.in-InterfaceTypeDefinition.is c.write_ast_json-in-InterfaceTypeDefinition.ensures

pub returns-in-UnionTypeDefinition : goal.returns-in-UnionTypeDefinition
returns-in-UnionTypeDefinition g c = as_variant c.in-UnionTypeDefinition.is c.write_ast_json-in-UnionTypeDefinition.ensures

pub returns-in-EnumTypeDefinition : goal.returns-in-EnumTypeDefinition
returns-in-EnumTypeDefinition g c = as_variant c.in-EnumTypeDefinition.is c.write_ast_json-in-EnumTypeDefinition.ensures

pub returns-in-InputObjectTypeDefinition : goal.returns-in-InputObjectTypeDefinition
returns-in-InputObjectTypeDefinition g c = as_variant c.in-InputObjectTypeDefinition.is c.write_ast_json-in-InputObjectTypeDefinition.ensures

pub returns-in-SchemaExtension : goal.returns-in-SchemaExtension
returns-in-SchemaExtension g c = as_variant c.in-SchemaExtension.is c.write_ast_json-in-SchemaExtension.ensures

pub returns-in-ScalarTypeExtension : goal.returns-in-ScalarTypeExtension
returns-in-ScalarTypeExtension g c = as_variant c.in-ScalarTypeExtension.is c.write_ast_json-in-ScalarTypeExtension.ensures

pub returns-in-ObjectTypeExtension : goal.returns-in-ObjectTypeExtension
returns-in-ObjectTypeExtension g c = as_variant c.in-ObjectTypeExtension.is c.write_ast_json-in-ObjectTypeExtension.ensures

pub returns-in-InterfaceTypeExtension : goal.returns-in-InterfaceTypeExtension
returns-in-InterfaceTypeExtension g c = as_variant c.in-InterfaceTypeExtension.is c.write_ast_json-in-InterfaceTypeExtension.ensures

pub returns-in-UnionTypeExtension : goal.returns-in-UnionTypeExtension
returns-in-UnionTypeExtension g c = as_variant c.in-UnionTypeExtension.is c.write_ast_json-in-UnionTypeExtension.ensures

pub returns-in-EnumTypeExtension : goal.returns-in-EnumTypeExtension
returns-in-EnumTypeExtension g c = as_variant c.in-EnumTypeExtension.is c.write_ast_json-in-EnumTypeExtension.ensures

pub returns-in-InputObjectTypeExtension : goal.returns-in-InputObjectTypeExtension
returns-in-InputObjectTypeExtension g c = as_variant c.in-InputObjectTypeExtension.is c.write_ast_json-in-InputObjectTypeExtension.ensures
