-- Which JSON is of which definition and document.
use Rattle.std.specs.Prelude.{List, [], ◌∷◌, codes}
use Rattle.serde_json.specs.Data.{Data}
use Rattle.graphql_ast.specs.Definitions.{DefinitionName, kind_named, DefinitionTree, OperationDefinition, FragmentDefinition}
use Rattle.graphql_ast.specs.Definitions.{DirectiveDefinition, SchemaDefinition, ScalarTypeDefinition, ObjectTypeDefinition}
use Rattle.graphql_ast.specs.Definitions.{InterfaceTypeDefinition, UnionTypeDefinition, EnumTypeDefinition, InputObjectTypeDefinition}
use Rattle.graphql_ast.specs.Definitions.{SchemaExtension, ScalarTypeExtension, ObjectTypeExtension, InterfaceTypeExtension}
use Rattle.graphql_ast.specs.Definitions.{UnionTypeExtension, EnumTypeExtension, InputObjectTypeExtension}
use Rattle.graphql_ast_json.specs.kinds.DefinitionJson.{IsDirectiveDefinition}
use Rattle.graphql_ast_json.specs.kinds.ExecutableJson.{IsFragmentDefinition, IsOperationDefinition}
use Rattle.ast_json_nodes.specs.declared.read.Unknown.{Unknown}
use Rattle.ast_json_nodes.specs.nodes.Nodes.{Each, IsNode, ListMember}
use Rattle.graphql_ast_json.specs.kinds.TypeSystemJson.{IsEnumTypeDefinition, IsEnumTypeExtension, IsInputObjectTypeDefinition}
use Rattle.graphql_ast_json.specs.kinds.TypeSystemJson.{IsInputObjectTypeExtension, IsInterfaceTypeDefinition, IsInterfaceTypeExtension}
use Rattle.graphql_ast_json.specs.kinds.TypeSystemJson.{IsObjectTypeDefinition, IsObjectTypeExtension, IsScalarTypeDefinition}
use Rattle.graphql_ast_json.specs.kinds.TypeSystemJson.{IsScalarTypeExtension, IsSchemaDefinition, IsSchemaExtension, IsUnionTypeDefinition}
use Rattle.graphql_ast_json.specs.kinds.TypeSystemJson.{IsUnionTypeExtension}

-- which JSON is of which tree of the kind that is so named
abbrev pub IsNamed : Unknown → (name : DefinitionName) → (kind_named name).Tree → Data → Type 0
IsNamed unknown OperationDefinition = IsOperationDefinition unknown
IsNamed unknown FragmentDefinition = IsFragmentDefinition unknown
IsNamed unknown DirectiveDefinition = IsDirectiveDefinition unknown
IsNamed unknown SchemaDefinition = IsSchemaDefinition unknown
IsNamed unknown ScalarTypeDefinition = IsScalarTypeDefinition unknown
IsNamed unknown ObjectTypeDefinition = IsObjectTypeDefinition unknown
IsNamed unknown InterfaceTypeDefinition = IsInterfaceTypeDefinition unknown
IsNamed unknown UnionTypeDefinition = IsUnionTypeDefinition unknown
IsNamed unknown EnumTypeDefinition = IsEnumTypeDefinition unknown
IsNamed unknown InputObjectTypeDefinition = IsInputObjectTypeDefinition unknown
IsNamed unknown SchemaExtension = IsSchemaExtension unknown
IsNamed unknown ScalarTypeExtension = IsScalarTypeExtension unknown
IsNamed unknown ObjectTypeExtension = IsObjectTypeExtension unknown
IsNamed unknown InterfaceTypeExtension = IsInterfaceTypeExtension unknown
IsNamed unknown UnionTypeExtension = IsUnionTypeExtension unknown
IsNamed unknown EnumTypeExtension = IsEnumTypeExtension unknown
IsNamed unknown InputObjectTypeExtension = IsInputObjectTypeExtension unknown

-- A definition of a document is the node that it is by itself.
abbrev pub IsAnyDefinition : Unknown → DefinitionTree → Data → Type 0
IsAnyDefinition unknown definition = IsNamed unknown definition.name definition.tree

-- A document: a node with its definitions.
abbrev pub IsDocument : Unknown → List DefinitionTree → Data → Type 0
IsDocument unknown definitions json =
    IsNode unknown (codes "Document") (codes "definitions" ∷ []) json × ListMember (codes "definitions") json (Each (IsAnyDefinition unknown) definitions)
