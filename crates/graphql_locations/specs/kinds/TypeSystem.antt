-- The source locations in the definitions and extensions of the type system.
use Rattle.std.specs.Prelude.{List, ◌++◌}
use Rattle.graphql_base.specs.declared.name.Name.{Name}
use Rattle.graphql_base.specs.declared.span.SourceSpan.{SourceSpan}
use Rattle.graphql_values.specs.declared.directive_definition.DirectiveDefinition.{DirectiveDefinition}
use Rattle.graphql_values.specs.declared.operation_type.OperationType.{OperationType}
use Rattle.graphql_type_system.specs.declared.enum_type.EnumTypeDefinition.{EnumTypeDefinition}
use Rattle.graphql_type_system.specs.declared.enum_type.EnumTypeExtension.{EnumTypeExtension}
use Rattle.graphql_type_system.specs.declared.enum_value_definition.EnumValueDefinition.{EnumValueDefinition}
use Rattle.graphql_type_system.specs.declared.field_definition.FieldDefinition.{FieldDefinition}
use Rattle.graphql_type_system.specs.declared.input_object_type.InputObjectTypeDefinition.{InputObjectTypeDefinition}
use Rattle.graphql_type_system.specs.declared.input_object_type.InputObjectTypeExtension.{InputObjectTypeExtension}
use Rattle.graphql_type_system.specs.declared.interface_type.InterfaceTypeDefinition.{InterfaceTypeDefinition}
use Rattle.graphql_type_system.specs.declared.interface_type.InterfaceTypeExtension.{InterfaceTypeExtension}
use Rattle.graphql_type_system.specs.declared.object_type.ObjectTypeDefinition.{ObjectTypeDefinition}
use Rattle.graphql_type_system.specs.declared.object_type.ObjectTypeExtension.{ObjectTypeExtension}
use Rattle.graphql_type_system.specs.declared.scalar_type.ScalarTypeDefinition.{ScalarTypeDefinition}
use Rattle.graphql_type_system.specs.declared.scalar_type.ScalarTypeExtension.{ScalarTypeExtension}
use Rattle.graphql_type_system.specs.declared.schema.SchemaDefinition.{SchemaDefinition}
use Rattle.graphql_type_system.specs.declared.schema.SchemaExtension.{SchemaExtension}
use Rattle.graphql_type_system.specs.declared.union_type.UnionTypeDefinition.{UnionTypeDefinition}
use Rattle.graphql_type_system.specs.declared.union_type.UnionTypeExtension.{UnionTypeExtension}
use Rattle.graphql_locations.specs.Leaves.{name_locations, text_locations, optional_locations, list_locations, node_locations}
use Rattle.graphql_locations.specs.kinds.Values.{type_locations, directive_list_locations, input_value_definition_locations}

-- MEMBERS

abbrev pub field_definition_locations : FieldDefinition → List SourceSpan
field_definition_locations field =
    optional_locations text_locations field.description
    ++ name_locations field.name
    ++ list_locations (node_locations input_value_definition_locations) field.arguments.items
    ++ type_locations field.ty
    ++ directive_list_locations field.directives

abbrev pub enum_value_definition_locations : EnumValueDefinition → List SourceSpan
enum_value_definition_locations definition =
    optional_locations text_locations definition.description
    ++ name_locations definition.value
    ++ directive_list_locations definition.directives

abbrev pub root_operation_locations : OperationType × Name → List SourceSpan
root_operation_locations root = name_locations root.1

-- DEFINITIONS

abbrev pub directive_definition_locations : DirectiveDefinition → List SourceSpan
directive_definition_locations definition =
    optional_locations text_locations definition.description
    ++ name_locations definition.name
    ++ list_locations (node_locations input_value_definition_locations) definition.arguments.items

abbrev pub schema_definition_locations : SchemaDefinition → List SourceSpan
schema_definition_locations schema =
    optional_locations text_locations schema.description
    ++ directive_list_locations schema.directives
    ++ list_locations (node_locations root_operation_locations) schema.root_operations.items

abbrev pub scalar_type_definition_locations : ScalarTypeDefinition → List SourceSpan
scalar_type_definition_locations scalar =
    optional_locations text_locations scalar.description
    ++ name_locations scalar.name
    ++ directive_list_locations scalar.directives

abbrev pub object_type_definition_locations : ObjectTypeDefinition → List SourceSpan
object_type_definition_locations object =
    optional_locations text_locations object.description
    ++ name_locations object.name
    ++ list_locations name_locations object.implements_interfaces.items
    ++ directive_list_locations object.directives
    ++ list_locations (node_locations field_definition_locations) object.fields.items

abbrev pub interface_type_definition_locations : InterfaceTypeDefinition → List SourceSpan
interface_type_definition_locations interface =
    optional_locations text_locations interface.description
    ++ name_locations interface.name
    ++ list_locations name_locations interface.implements_interfaces.items
    ++ directive_list_locations interface.directives
    ++ list_locations (node_locations field_definition_locations) interface.fields.items

abbrev pub union_type_definition_locations : UnionTypeDefinition → List SourceSpan
union_type_definition_locations union =
    optional_locations text_locations union.description
    ++ name_locations union.name
    ++ directive_list_locations union.directives
    ++ list_locations name_locations union.members.items

abbrev pub enum_type_definition_locations : EnumTypeDefinition → List SourceSpan
enum_type_definition_locations enum =
    optional_locations text_locations enum.description
    ++ name_locations enum.name
    ++ directive_list_locations enum.directives
    ++ list_locations (node_locations enum_value_definition_locations) enum.values.items

abbrev pub input_object_type_definition_locations : InputObjectTypeDefinition → List SourceSpan
input_object_type_definition_locations input =
    optional_locations text_locations input.description
    ++ name_locations input.name
    ++ directive_list_locations input.directives
    ++ list_locations (node_locations input_value_definition_locations) input.fields.items

-- EXTENSIONS

abbrev pub schema_extension_locations : SchemaExtension → List SourceSpan
schema_extension_locations schema =
    directive_list_locations schema.directives
    ++ list_locations (node_locations root_operation_locations) schema.root_operations.items

abbrev pub scalar_type_extension_locations : ScalarTypeExtension → List SourceSpan
scalar_type_extension_locations scalar =
    name_locations scalar.name
    ++ directive_list_locations scalar.directives

abbrev pub object_type_extension_locations : ObjectTypeExtension → List SourceSpan
object_type_extension_locations object =
    name_locations object.name
    ++ list_locations name_locations object.implements_interfaces.items
    ++ directive_list_locations object.directives
    ++ list_locations (node_locations field_definition_locations) object.fields.items

abbrev pub interface_type_extension_locations : InterfaceTypeExtension → List SourceSpan
interface_type_extension_locations interface =
    name_locations interface.name
    ++ list_locations name_locations interface.implements_interfaces.items
    ++ directive_list_locations interface.directives
    ++ list_locations (node_locations field_definition_locations) interface.fields.items

abbrev pub union_type_extension_locations : UnionTypeExtension → List SourceSpan
union_type_extension_locations union =
    name_locations union.name
    ++ directive_list_locations union.directives
    ++ list_locations name_locations union.members.items

abbrev pub enum_type_extension_locations : EnumTypeExtension → List SourceSpan
enum_type_extension_locations enum =
    name_locations enum.name
    ++ directive_list_locations enum.directives
    ++ list_locations (node_locations enum_value_definition_locations) enum.values.items

abbrev pub input_object_type_extension_locations : InputObjectTypeExtension → List SourceSpan
input_object_type_extension_locations input =
    name_locations input.name
    ++ directive_list_locations input.directives
    ++ list_locations (node_locations input_value_definition_locations) input.fields.items
