-- Definitions: Definition, section 2.2. Each of the seventeen kinds of definitions and extensions is one.
use Rattle.graphql_text.specs.kinds.Kinds.{Kind}
use Rattle.graphql_executable.specs.kinds.OperationDefinitions.{operation_definition_kind}
use Rattle.graphql_executable.specs.kinds.FragmentDefinitions.{fragment_definition_kind}
use Rattle.graphql_values.specs.kinds.DirectiveDefinitions.{directive_definition_kind}
use Rattle.graphql_type_system.specs.kinds.Schemas.{schema_definition_kind, schema_extension_kind}
use Rattle.graphql_type_system.specs.kinds.ScalarTypes.{scalar_type_definition_kind, scalar_type_extension_kind}
use Rattle.graphql_type_system.specs.kinds.ObjectTypes.{object_type_definition_kind, object_type_extension_kind}
use Rattle.graphql_type_system.specs.kinds.InterfaceTypes.{interface_type_definition_kind, interface_type_extension_kind}
use Rattle.graphql_type_system.specs.kinds.UnionTypes.{union_type_definition_kind, union_type_extension_kind}
use Rattle.graphql_type_system.specs.kinds.EnumTypes.{enum_type_definition_kind, enum_type_extension_kind}
use Rattle.graphql_type_system.specs.kinds.InputObjectTypes.{input_object_type_definition_kind, input_object_type_extension_kind}

-- which of the seventeen it is
pub data DefinitionName : Type 0 where
  -- ExecutableDefinition, section 2.2
  OperationDefinition FragmentDefinition : DefinitionName
  -- TypeSystemDefinition, section 3
  DirectiveDefinition SchemaDefinition : DefinitionName
  -- TypeDefinition, section 3.4
  ScalarTypeDefinition ObjectTypeDefinition InterfaceTypeDefinition UnionTypeDefinition EnumTypeDefinition InputObjectTypeDefinition : DefinitionName
  -- TypeSystemExtension, section 3.1, and TypeExtension, section 3.4.3
  SchemaExtension : DefinitionName
  ScalarTypeExtension ObjectTypeExtension InterfaceTypeExtension UnionTypeExtension EnumTypeExtension InputObjectTypeExtension : DefinitionName

abbrev pub kind_named : DefinitionName → Kind
kind_named OperationDefinition = operation_definition_kind
kind_named FragmentDefinition = fragment_definition_kind
kind_named DirectiveDefinition = directive_definition_kind
kind_named SchemaDefinition = schema_definition_kind
kind_named ScalarTypeDefinition = scalar_type_definition_kind
kind_named ObjectTypeDefinition = object_type_definition_kind
kind_named InterfaceTypeDefinition = interface_type_definition_kind
kind_named UnionTypeDefinition = union_type_definition_kind
kind_named EnumTypeDefinition = enum_type_definition_kind
kind_named InputObjectTypeDefinition = input_object_type_definition_kind
kind_named SchemaExtension = schema_extension_kind
kind_named ScalarTypeExtension = scalar_type_extension_kind
kind_named ObjectTypeExtension = object_type_extension_kind
kind_named InterfaceTypeExtension = interface_type_extension_kind
kind_named UnionTypeExtension = union_type_extension_kind
kind_named EnumTypeExtension = enum_type_extension_kind
kind_named InputObjectTypeExtension = input_object_type_extension_kind

-- A definition is a tree of one of these kinds.
pub record DefinitionTree : Type 0 where
  pub name : DefinitionName
  pub tree : (kind_named name).Tree

-- Its grammar, its layout, its nesting, its side conditions and its flaws are those of its kind.
abbrev pub definition_kind : Kind
definition_kind = record {
  Tree = DefinitionTree;
  form = λ definition. (kind_named definition.name).form definition.tree;
  obeys = λ definition. (kind_named definition.name).obeys definition.tree;
  flaws = λ definition. (kind_named definition.name).flaws definition.tree;
  shape = λ broken front definition. (kind_named definition.name).shape broken front definition.tree;
  nesting = λ definition. (kind_named definition.name).nesting definition.tree;
}
