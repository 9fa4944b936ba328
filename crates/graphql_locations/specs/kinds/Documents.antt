-- The source locations in definitions and documents.
use Rattle.std.specs.Prelude.{List}
use Rattle.graphql_base.specs.declared.span.SourceSpan.{SourceSpan}
use Rattle.graphql_ast.specs.declared.definition.Definition.{Definition}
use Rattle.graphql_ast.specs.declared.definition.Definition.TheVariants as definition
use Rattle.graphql_ast.specs.declared.document.Document.{Document}
use Rattle.graphql_locations.specs.Leaves.{list_locations, node_locations}
use Rattle.graphql_locations.specs.kinds.Executable.{operation_definition_locations, fragment_definition_locations}
use Rattle.graphql_locations.specs.kinds.TypeSystem.{directive_definition_locations, schema_definition_locations, scalar_type_definition_locations}
use Rattle.graphql_locations.specs.kinds.TypeSystem.{object_type_definition_locations, interface_type_definition_locations, union_type_definition_locations}
use Rattle.graphql_locations.specs.kinds.TypeSystem.{enum_type_definition_locations, input_object_type_definition_locations, schema_extension_locations}
use Rattle.graphql_locations.specs.kinds.TypeSystem.{scalar_type_extension_locations, object_type_extension_locations, interface_type_extension_locations}
use Rattle.graphql_locations.specs.kinds.TypeSystem.{union_type_extension_locations, enum_type_extension_locations, input_object_type_extension_locations}

abbrev pub definition_locations : Definition → List SourceSpan
definition_locations (definition.OperationDefinition node) = node_locations operation_definition_locations node
definition_locations (definition.FragmentDefinition node) = node_locations fragment_definition_locations node
definition_locations (definition.DirectiveDefinition node) = node_locations directive_definition_locations node
definition_locations (definition.SchemaDefinition node) = node_locations schema_definition_locations node
definition_locations (definition.ScalarTypeDefinition node) = node_locations scalar_type_definition_locations node
definition_locations (definition.ObjectTypeDefinition node) = node_locations object_type_definition_locations node
definition_locations (definition.InterfaceTypeDefinition node) = node_locations interface_type_definition_locations node
definition_locations (definition.UnionTypeDefinition node) = node_locations union_type_definition_locations node
definition_locations (definition.EnumTypeDefinition node) = node_locations enum_type_definition_locations node
definition_locations (definition.InputObjectTypeDefinition node) = node_locations input_object_type_definition_locations node
definition_locations (definition.SchemaExtension node) = node_locations schema_extension_locations node
definition_locations (definition.ScalarTypeExtension node) = node_locations scalar_type_extension_locations node
definition_locations (definition.ObjectTypeExtension node) = node_locations object_type_extension_locations node
definition_locations (definition.InterfaceTypeExtension node) = node_locations interface_type_extension_locations node
definition_locations (definition.UnionTypeExtension node) = node_locations union_type_extension_locations node
definition_locations (definition.EnumTypeExtension node) = node_locations enum_type_extension_locations node
definition_locations (definition.InputObjectTypeExtension node) = node_locations input_object_type_extension_locations node

-- Its sources are texts, and have no location.
abbrev pub document_locations : Document → List SourceSpan
document_locations document = list_locations definition_locations document.definitions.items
