use Rattle.std.proofs.Common.{◌≡◌, IfOk, Result, sym, subst}
use Rattle.serde_json.specs.View.{view}
use Rattle.serde_json.specs.declared.value.Value as json
use Rattle.graphql_ast.specs.AstTrees.{definition_tree}
use Rattle.graphql_ast.specs.DefinitionQueries.{definition_location}
use Rattle.ast_json_nodes.specs.code.NodeReading.{StandsAt}
use Rattle.graphql_ast.specs.declared.definition.Definition.{Definition}
use Rattle.ast_json_nodes.specs.declared.read.Unknown.{Unknown}
use Rattle.graphql_ast_json.specs.kinds.DocumentJson.{IsAnyDefinition}
use Rattle.graphql_ast_json.proofs.definition.DefinitionAstJson.to_ast_json.Goals as goal

-- what is written of a definition is written of it under its variant
as_variant : {E : Type 0} {definition variant : Definition} (written : Result json.Value E) → definition ≡ variant →
    IfOk written (λ json. (unknown : Unknown) → IsAnyDefinition unknown (definition_tree variant) (view json)) →
    IfOk written (λ json. (unknown : Unknown) → IsAnyDefinition unknown (definition_tree definition) (view json))
as_variant written is = subst (λ d. IfOk written (λ json. (unknown : Unknown) → IsAnyDefinition unknown (definition_tree d) (view json))) (sym is)

-- and it stands where that does
stands_as : {E : Type 0} {definition variant : Definition} (written : Result json.Value E) → definition ≡ variant →
    IfOk written (λ json. StandsAt (definition_location variant) (view json)) →
    IfOk written (λ json. StandsAt (definition_location definition) (view json))
stands_as written is = subst (λ d. IfOk written (λ json. StandsAt (definition_location d) (view json))) (sym is)

pub returns-in-OperationDefinition-clause-ok : goal.returns-in-OperationDefinition-clause-ok
returns-in-OperationDefinition-clause-ok c = as_variant _ c.in-OperationDefinition.is c.to_ast_json.ensures.ok

pub returns-in-FragmentDefinition-clause-ok : goal.returns-in-FragmentDefinition-clause-ok
returns-in-FragmentDefinition-clause-ok c = as_variant _ c.in-FragmentDefinition.is c.to_ast_json-in-FragmentDefinition.ensures.ok

pub returns-in-DirectiveDefinition-clause-ok : goal.returns-in-DirectiveDefinition-clause-ok
returns-in-DirectiveDefinition-clause-ok c = as_variant _ c.in-DirectiveDefinition.is c.to_ast_json-in-DirectiveDefinition.ensures.ok

pub returns-in-SchemaDefinition-clause-ok : goal.returns-in-SchemaDefinition-clause-ok
returns-in-SchemaDefinition-clause-ok c = as_variant _ c.in-SchemaDefinition.is c.to_ast_json-in-SchemaDefinition.ensures.ok

pub returns-in-ScalarTypeDefinition-clause-ok : goal.returns-in-ScalarTypeDefinition-clause-ok
returns-in-ScalarTypeDefinition-clause-ok c = as_variant _ c.in-ScalarTypeDefinition.is c.to_ast_json-in-ScalarTypeDefinition.ensures.ok

pub returns-in-ObjectTypeDefinition-clause-ok : goal.returns-in-ObjectTypeDefinition-clause-ok
returns-in-ObjectTypeDefinition-clause-ok c = as_variant _ c.in-ObjectTypeDefinition.is c.to_ast_json-in-ObjectTypeDefinition.ensures.ok

pub returns-in-InterfaceTypeDefinition-clause-ok : goal.returns-in-InterfaceTypeDefinition-clause-ok
returns-in-InterfaceTypeDefinition-clause-ok c = as_variant _ c.in-InterfaceTypeDefinition.is c.to_ast_json-in-InterfaceTypeDefinition.ensures.ok

pub returns-in-UnionTypeDefinition-clause-ok : goal.returns-in-UnionTypeDefinition-clause-ok
returns-in-UnionTypeDefinition-clause-ok c = as_variant _ c.in-UnionTypeDefinition.is c.to_ast_json-in-UnionTypeDefinition.ensures.ok

pub returns-in-EnumTypeDefinition-clause-ok : goal.returns-in-EnumTypeDefinition-clause-ok
returns-in-EnumTypeDefinition-clause-ok c = as_variant _ c.in-EnumTypeDefinition.is c.to_ast_json-in-EnumTypeDefinition.ensures.ok

pub returns-in-InputObjectTypeDefinition-clause-ok : goal.returns-in-InputObjectTypeDefinition-clause-ok
returns-in-InputObjectTypeDefinition-clause-ok c = as_variant _ c.in-InputObjectTypeDefinition.is c.to_ast_json-in-InputObjectTypeDefinition.ensures.ok

pub returns-in-SchemaExtension-clause-ok : goal.returns-in-SchemaExtension-clause-ok
returns-in-SchemaExtension-clause-ok c = as_variant _ c.in-SchemaExtension.is c.to_ast_json-in-SchemaExtension.ensures.ok

pub returns-in-ScalarTypeExtension-clause-ok : goal.returns-in-ScalarTypeExtension-clause-ok
returns-in-ScalarTypeExtension-clause-ok c = as_variant _ c.in-ScalarTypeExtension.is c.to_ast_json-in-ScalarTypeExtension.ensures.ok

pub returns-in-ObjectTypeExtension-clause-ok : goal.returns-in-ObjectTypeExtension-clause-ok
returns-in-ObjectTypeExtension-clause-ok c = as_variant _ c.in-ObjectTypeExtension.is c.to_ast_json-in-ObjectTypeExtension.ensures.ok

pub returns-in-InterfaceTypeExtension-clause-ok : goal.returns-in-InterfaceTypeExtension-clause-ok
returns-in-InterfaceTypeExtension-clause-ok c = as_variant _ c.in-InterfaceTypeExtension.is c.to_ast_json-in-InterfaceTypeExtension.ensures.ok

pub returns-in-UnionTypeExtension-clause-ok : goal.returns-in-UnionTypeExtension-clause-ok
returns-in-UnionTypeExtension-clause-ok c = as_variant _ c.in-UnionTypeExtension.is c.to_ast_json-in-UnionTypeExtension.ensures.ok

pub returns-in-EnumTypeExtension-clause-ok : goal.returns-in-EnumTypeExtension-clause-ok
returns-in-EnumTypeExtension-clause-ok c = as_variant _ c.in-EnumTypeExtension.is c.to_ast_json-in-EnumTypeExtension.ensures.ok

pub returns-in-InputObjectTypeExtension-clause-ok : goal.returns-in-InputObjectTypeExtension-clause-ok
returns-in-InputObjectTypeExtension-clause-ok c = as_variant _ c.in-InputObjectTypeExtension.is c.to_ast_json-in-InputObjectTypeExtension.ensures.ok

pub returns-in-OperationDefinition-clause-stands : goal.returns-in-OperationDefinition-clause-stands
returns-in-OperationDefinition-clause-stands c = stands_as _ c.in-OperationDefinition.is c.to_ast_json.ensures.stands

pub returns-in-FragmentDefinition-clause-stands : goal.returns-in-FragmentDefinition-clause-stands
returns-in-FragmentDefinition-clause-stands c = stands_as _ c.in-FragmentDefinition.is c.to_ast_json-in-FragmentDefinition.ensures.stands

pub returns-in-DirectiveDefinition-clause-stands : goal.returns-in-DirectiveDefinition-clause-stands
returns-in-DirectiveDefinition-clause-stands c = stands_as _ c.in-DirectiveDefinition.is c.to_ast_json-in-DirectiveDefinition.ensures.stands

pub returns-in-SchemaDefinition-clause-stands : goal.returns-in-SchemaDefinition-clause-stands
returns-in-SchemaDefinition-clause-stands c = stands_as _ c.in-SchemaDefinition.is c.to_ast_json-in-SchemaDefinition.ensures.stands

pub returns-in-ScalarTypeDefinition-clause-stands : goal.returns-in-ScalarTypeDefinition-clause-stands
returns-in-ScalarTypeDefinition-clause-stands c = stands_as _ c.in-ScalarTypeDefinition.is c.to_ast_json-in-ScalarTypeDefinition.ensures.stands

pub returns-in-ObjectTypeDefinition-clause-stands : goal.returns-in-ObjectTypeDefinition-clause-stands
returns-in-ObjectTypeDefinition-clause-stands c = stands_as _ c.in-ObjectTypeDefinition.is c.to_ast_json-in-ObjectTypeDefinition.ensures.stands

pub returns-in-InterfaceTypeDefinition-clause-stands : goal.returns-in-InterfaceTypeDefinition-clause-stands
returns-in-InterfaceTypeDefinition-clause-stands c = stands_as _ c.in-InterfaceTypeDefinition.is c.to_ast_json-in-InterfaceTypeDefinition.ensures.stands

pub returns-in-UnionTypeDefinition-clause-stands : goal.returns-in-UnionTypeDefinition-clause-stands
returns-in-UnionTypeDefinition-clause-stands c = stands_as _ c.in-UnionTypeDefinition.is c.to_ast_json-in-UnionTypeDefinition.ensures.stands

pub returns-in-EnumTypeDefinition-clause-stands : goal.returns-in-EnumTypeDefinition-clause-stands
returns-in-EnumTypeDefinition-clause-stands c = stands_as _ c.in-EnumTypeDefinition.is c.to_ast_json-in-EnumTypeDefinition.ensures.stands

pub returns-in-InputObjectTypeDefinition-clause-stands : goal.returns-in-InputObjectTypeDefinition-clause-stands
returns-in-InputObjectTypeDefinition-clause-stands c = stands_as _ c.in-InputObjectTypeDefinition.is c.to_ast_json-in-InputObjectTypeDefinition.ensures.stands

pub returns-in-SchemaExtension-clause-stands : goal.returns-in-SchemaExtension-clause-stands
returns-in-SchemaExtension-clause-stands c = stands_as _ c.in-SchemaExtension.is c.to_ast_json-in-SchemaExtension.ensures.stands

pub returns-in-ScalarTypeExtension-clause-stands : goal.returns-in-ScalarTypeExtension-clause-stands
returns-in-ScalarTypeExtension-clause-stands c = stands_as _ c.in-ScalarTypeExtension.is c.to_ast_json-in-ScalarTypeExtension.ensures.stands

pub returns-in-ObjectTypeExtension-clause-stands : goal.returns-in-ObjectTypeExtension-clause-stands
returns-in-ObjectTypeExtension-clause-stands c = stands_as _ c.in-ObjectTypeExtension.is c.to_ast_json-in-ObjectTypeExtension.ensures.stands

pub returns-in-InterfaceTypeExtension-clause-stands : goal.returns-in-InterfaceTypeExtension-clause-stands
returns-in-InterfaceTypeExtension-clause-stands c = stands_as _ c.in-InterfaceTypeExtension.is c.to_ast_json-in-InterfaceTypeExtension.ensures.stands

pub returns-in-UnionTypeExtension-clause-stands : goal.returns-in-UnionTypeExtension-clause-stands
returns-in-UnionTypeExtension-clause-stands c = stands_as _ c.in-UnionTypeExtension.is c.to_ast_json-in-UnionTypeExtension.ensures.stands

pub returns-in-EnumTypeExtension-clause-stands : goal.returns-in-EnumTypeExtension-clause-stands
returns-in-EnumTypeExtension-clause-stands c = stands_as _ c.in-EnumTypeExtension.is c.to_ast_json-in-EnumTypeExtension.ensures.stands

pub returns-in-InputObjectTypeExtension-clause-stands : goal.returns-in-InputObjectTypeExtension-clause-stands
returns-in-InputObjectTypeExtension-clause-stands c = stands_as _ c.in-InputObjectTypeExtension.is c.to_ast_json-in-InputObjectTypeExtension.ensures.stands
