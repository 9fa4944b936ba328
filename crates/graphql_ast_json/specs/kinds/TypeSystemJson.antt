-- Which JSON is of which definition and extension of the type system. A definition and its extension share a body: the JSON of both has its
-- members.
use Rattle.std.specs.Prelude.{◌≡◌, ℕ, List, [], ◌∷◌, Some, codes}
use Rattle.serde_json.specs.Data.{Data, string}
use Rattle.graphql_text.specs.parts.Descriptions.{Described}
use Rattle.graphql_values.specs.kinds.OperationTypes.{operation_type_name}
use Rattle.graphql_type_system.specs.kinds.BracedTypes.{BracedTypeTree}
use Rattle.graphql_type_system.specs.kinds.EnumValueDefinitions.{EnumValueDefinitionTree, enum_value_definition_kind}
use Rattle.graphql_type_system.specs.kinds.FieldDefinitions.{FieldDefinitionTree, field_definition_kind}
use Rattle.graphql_type_system.specs.kinds.ImplementingTypes.{ImplementingTypeTree}
use Rattle.graphql_type_system.specs.kinds.ScalarTypes.{ScalarTypeTree}
use Rattle.graphql_type_system.specs.kinds.Schemas.{RootOperationTree, SchemaTree}
use Rattle.graphql_type_system.specs.kinds.UnionTypes.{UnionTypeTree}
use Rattle.graphql_values.specs.kinds.InputValueDefinitions.{input_value_definition_kind}
use Rattle.graphql_ast_json.specs.kinds.DefinitionJson.{IsInputValueDefinition}
use Rattle.graphql_ast_json.specs.kinds.DirectiveJson.{HasDirectives}
use Rattle.ast_json_nodes.specs.declared.read.Unknown.{Unknown}
use Rattle.ast_json_nodes.specs.nodes.Nodes.{Each, HasName, IsNode, IsOptional, IsStringValue, Member, OptionalListMember, member_of}
use Rattle.graphql_ast_json.specs.kinds.TypeJson.{IsNamedType, IsTypeReference}

-- A definition: a node of this kind with a description, perhaps, and the members of its body, which have these names.
abbrev pub IsDefinition : {Body : Type 0} → Unknown → List ℕ → List (List ℕ) → (Body → Data → Type 0) → Described Body → Data → Type 0
IsDefinition unknown kind names Has definition json =
    IsNode unknown kind (codes "description" ∷ names) json × IsOptional (IsStringValue unknown) definition.description (member_of (codes "description") json)
    × Has definition.body json

-- An extension: a node of this kind with the members of its body.
abbrev pub IsExtension : {Body : Type 0} → Unknown → List ℕ → List (List ℕ) → (Body → Data → Type 0) → Body → Data → Type 0
IsExtension unknown kind names Has body json = IsNode unknown kind names json × Has body json

-- MEMBERS OF TYPES

abbrev pub field_members : List (List ℕ)
field_members = codes "name" ∷ codes "arguments" ∷ codes "type" ∷ codes "directives" ∷ []

abbrev pub HasField : Unknown → FieldDefinitionTree → Data → Type 0
HasField unknown field json =
    HasName unknown field.name json × OptionalListMember (codes "arguments") json (Each (IsInputValueDefinition unknown) field.arguments)
    × Member (codes "type") json (IsTypeReference unknown field.type) × HasDirectives unknown field.directives json

abbrev pub IsFieldDefinition : Unknown → field_definition_kind.Tree → Data → Type 0
IsFieldDefinition unknown = IsDefinition unknown (codes "FieldDefinition") field_members (HasField unknown)

abbrev pub enum_value_members : List (List ℕ)
enum_value_members = codes "name" ∷ codes "directives" ∷ []

abbrev pub HasEnumValue : Unknown → EnumValueDefinitionTree → Data → Type 0
HasEnumValue unknown definition json = HasName unknown definition.value json × HasDirectives unknown definition.directives json

abbrev pub IsEnumValueDefinition : Unknown → enum_value_definition_kind.Tree → Data → Type 0
IsEnumValueDefinition unknown = IsDefinition unknown (codes "EnumValueDefinition") enum_value_members (HasEnumValue unknown)

-- a root operation: its operation type is told by its word in the grammar
abbrev pub IsRootOperation : Unknown → RootOperationTree → Data → Type 0
IsRootOperation unknown root json =
    IsNode unknown (codes "OperationTypeDefinition") (codes "operation" ∷ codes "type" ∷ []) json
    × (member_of (codes "operation") json ≡ Some (string (operation_type_name root.operation_type))) × Member (codes "type") json
    (IsNamedType unknown root.type)

-- BODIES

abbrev pub schema_members : List (List ℕ)
schema_members = codes "directives" ∷ codes "operationTypes" ∷ []

abbrev pub HasSchema : Unknown → SchemaTree → Data → Type 0
HasSchema unknown schema json =
    HasDirectives unknown schema.directives json × OptionalListMember (codes "operationTypes") json (Each (IsRootOperation unknown) schema.root_operations)

abbrev pub scalar_type_members : List (List ℕ)
scalar_type_members = codes "name" ∷ codes "directives" ∷ []

abbrev pub HasScalarType : Unknown → ScalarTypeTree → Data → Type 0
HasScalarType unknown scalar json = HasName unknown scalar.name json × HasDirectives unknown scalar.directives json

abbrev pub implementing_type_members : List (List ℕ)
implementing_type_members = codes "name" ∷ codes "interfaces" ∷ codes "directives" ∷ codes "fields" ∷ []

abbrev pub HasImplementingType : Unknown → ImplementingTypeTree → Data → Type 0
HasImplementingType unknown type json =
    HasName unknown type.name json × OptionalListMember (codes "interfaces") json (Each (IsNamedType unknown) type.interfaces)
    × HasDirectives unknown type.directives json
    × OptionalListMember (codes "fields") json (Each (IsFieldDefinition unknown) type.fields)

abbrev pub union_type_members : List (List ℕ)
union_type_members = codes "name" ∷ codes "directives" ∷ codes "types" ∷ []

abbrev pub HasUnionType : Unknown → UnionTypeTree → Data → Type 0
HasUnionType unknown union json =
    HasName unknown union.name json × HasDirectives unknown union.directives json × OptionalListMember (codes "types") json (Each
    (IsNamedType unknown) union.members)

-- its members stand under this name
abbrev pub HasBracedType : {Tree : Type 0} → Unknown → List ℕ → (Tree → Data → Type 0) → BracedTypeTree Tree → Data → Type 0
HasBracedType unknown name Is type json =
    HasName unknown type.name json × HasDirectives unknown type.directives json × OptionalListMember name json (Each Is type.members)

abbrev pub enum_type_members : List (List ℕ)
enum_type_members = codes "name" ∷ codes "directives" ∷ codes "values" ∷ []

abbrev pub HasEnumType : Unknown → BracedTypeTree enum_value_definition_kind.Tree → Data → Type 0
HasEnumType unknown = HasBracedType unknown (codes "values") (IsEnumValueDefinition unknown)

abbrev pub input_object_type_members : List (List ℕ)
input_object_type_members = codes "name" ∷ codes "directives" ∷ codes "fields" ∷ []

abbrev pub HasInputObjectType : Unknown → BracedTypeTree input_value_definition_kind.Tree → Data → Type 0
HasInputObjectType unknown = HasBracedType unknown (codes "fields") (IsInputValueDefinition unknown)

-- DEFINITIONS AND EXTENSIONS

abbrev pub IsSchemaDefinition : Unknown → Described SchemaTree → Data → Type 0
IsSchemaDefinition unknown = IsDefinition unknown (codes "SchemaDefinition") schema_members (HasSchema unknown)

abbrev pub IsSchemaExtension : Unknown → SchemaTree → Data → Type 0
IsSchemaExtension unknown = IsExtension unknown (codes "SchemaExtension") schema_members (HasSchema unknown)

abbrev pub IsScalarTypeDefinition : Unknown → Described ScalarTypeTree → Data → Type 0
IsScalarTypeDefinition unknown = IsDefinition unknown (codes "ScalarTypeDefinition") scalar_type_members (HasScalarType unknown)

abbrev pub IsScalarTypeExtension : Unknown → ScalarTypeTree → Data → Type 0
IsScalarTypeExtension unknown = IsExtension unknown (codes "ScalarTypeExtension") scalar_type_members (HasScalarType unknown)

abbrev pub IsObjectTypeDefinition : Unknown → Described ImplementingTypeTree → Data → Type 0
IsObjectTypeDefinition unknown = IsDefinition unknown (codes "ObjectTypeDefinition") implementing_type_members (HasImplementingType unknown)

abbrev pub IsObjectTypeExtension : Unknown → ImplementingTypeTree → Data → Type 0
IsObjectTypeExtension unknown = IsExtension unknown (codes "ObjectTypeExtension") implementing_type_members (HasImplementingType unknown)

abbrev pub IsInterfaceTypeDefinition : Unknown → Described ImplementingTypeTree → Data → Type 0
IsInterfaceTypeDefinition unknown = IsDefinition unknown (codes "InterfaceTypeDefinition") implementing_type_members (HasImplementingType unknown)

abbrev pub IsInterfaceTypeExtension : Unknown → ImplementingTypeTree → Data → Type 0
IsInterfaceTypeExtension unknown = IsExtension unknown (codes "InterfaceTypeExtension") implementing_type_members (HasImplementingType unknown)

abbrev pub IsUnionTypeDefinition : Unknown → Described UnionTypeTree → Data → Type 0
IsUnionTypeDefinition unknown = IsDefinition unknown (codes "UnionTypeDefinition") union_type_members (HasUnionType unknown)

abbrev pub IsUnionTypeExtension : Unknown → UnionTypeTree → Data → Type 0
IsUnionTypeExtension unknown = IsExtension unknown (codes "UnionTypeExtension") union_type_members (HasUnionType unknown)

abbrev pub IsEnumTypeDefinition : Unknown → Described (BracedTypeTree enum_value_definition_kind.Tree) → Data → Type 0
IsEnumTypeDefinition unknown = IsDefinition unknown (codes "EnumTypeDefinition") enum_type_members (HasEnumType unknown)

abbrev pub IsEnumTypeExtension : Unknown → BracedTypeTree enum_value_definition_kind.Tree → Data → Type 0
IsEnumTypeExtension unknown = IsExtension unknown (codes "EnumTypeExtension") enum_type_members (HasEnumType unknown)

abbrev pub IsInputObjectTypeDefinition : Unknown → Described (BracedTypeTree input_value_definition_kind.Tree) → Data → Type 0
IsInputObjectTypeDefinition unknown = IsDefinition unknown (codes "InputObjectTypeDefinition") input_object_type_members (HasInputObjectType unknown)

abbrev pub IsInputObjectTypeExtension : Unknown → BracedTypeTree input_value_definition_kind.Tree → Data → Type 0
IsInputObjectTypeExtension unknown = IsExtension unknown (codes "InputObjectTypeExtension") input_object_type_members (HasInputObjectType unknown)
