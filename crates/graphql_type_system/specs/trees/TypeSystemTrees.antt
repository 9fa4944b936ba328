-- The trees that the definitions and extensions of the code stand for: all of them but the locations in a source text.
use Rattle.std.specs.Prelude.{List}
use Rattle.graphql_base.specs.declared.name.Name.{Name}
use Rattle.graphql_base.specs.declared.node.Node.{Node}
use Rattle.graphql_text.specs.trees.Leaves.{described_tree, name_tree, name_trees, node_trees}
use Rattle.graphql_values.specs.trees.DefinitionTrees.{input_value_definition_trees}
use Rattle.graphql_values.specs.trees.DirectiveTrees.{directive_trees}
use Rattle.graphql_values.specs.trees.LocationTrees.{operation_type_tree}
use Rattle.graphql_values.specs.trees.TypeTrees.{type_tree}
use Rattle.graphql_values.specs.declared.directive_list.DirectiveList.{DirectiveList}
use Rattle.graphql_values.specs.declared.operation_type.OperationType.{OperationType}
use Rattle.graphql_type_system.specs.kinds.BracedTypes.{BracedTypeTree}
use Rattle.graphql_type_system.specs.kinds.EnumTypes.{enum_type_definition_kind, enum_type_extension_kind}
use Rattle.graphql_type_system.specs.kinds.EnumValueDefinitions.{enum_value_definition_kind}
use Rattle.graphql_type_system.specs.kinds.FieldDefinitions.{field_definition_kind}
use Rattle.graphql_type_system.specs.kinds.ImplementingTypes.{ImplementingTypeTree}
use Rattle.graphql_type_system.specs.kinds.InputObjectTypes.{input_object_type_definition_kind, input_object_type_extension_kind}
use Rattle.graphql_type_system.specs.kinds.InterfaceTypes.{interface_type_definition_kind, interface_type_extension_kind}
use Rattle.graphql_type_system.specs.kinds.ObjectTypes.{object_type_definition_kind, object_type_extension_kind}
use Rattle.graphql_type_system.specs.kinds.ScalarTypes.{ScalarTypeTree, scalar_type_definition_kind, scalar_type_extension_kind}
use Rattle.graphql_type_system.specs.kinds.Schemas.{RootOperationTree, SchemaTree, schema_definition_kind, schema_extension_kind}
use Rattle.graphql_type_system.specs.kinds.UnionTypes.{UnionTypeTree, union_type_definition_kind, union_type_extension_kind}
use Rattle.graphql_type_system.specs.declared.enum_type.EnumTypeDefinition.{EnumTypeDefinition}
use Rattle.graphql_type_system.specs.declared.enum_type.EnumTypeExtension.{EnumTypeExtension}
use Rattle.graphql_type_system.specs.declared.enum_value_definition.EnumValueDefinition.{EnumValueDefinition}
use Rattle.graphql_type_system.specs.declared.field_definition.FieldDefinition.{FieldDefinition}
use Rattle.graphql_type_system.specs.declared.input_object_type.InputObjectTypeDefinition.{InputObjectTypeDefinition}
use Rattle.graphql_type_system.specs.declared.input_object_type.InputObjectTypeExtension.{InputObjectTypeExtension}
use Rattle.graphql_type_system.specs.declared.interface_type.InterfaceTypeDefinition.{InterfaceTypeDefinition}
use Rattle.graphql_type_system.specs.declared.interface_type.InterfaceTypeExtension.{InterfaceTypeExtension}
use Rattle.graphql_type_system.specs.declared.object_type.ObjectTypeDefinition.{ObjectTypeDefinition}
use Rattle.graphql_type_system.specs.declared.object_type.ObjectTypeExtension.{ObjectTypeExtension}
use Rattle.graphql_type_system.specs.declared.scalar_type.ScalarTypeDefinition.{ScalarTypeDefinition}
use Rattle.graphql_type_system.specs.declared.scalar_type.ScalarTypeExtension.{ScalarTypeExtension}
use Rattle.graphql_type_system.specs.declared.schema.SchemaDefinition.{SchemaDefinition}
use Rattle.graphql_type_system.specs.declared.schema.SchemaExtension.{SchemaExtension}
use Rattle.graphql_type_system.specs.declared.union_type.UnionTypeDefinition.{UnionTypeDefinition}
use Rattle.graphql_type_system.specs.declared.union_type.UnionTypeExtension.{UnionTypeExtension}

-- MEMBERS

abbrev pub field_definition_tree : FieldDefinition → field_definition_kind.Tree
field_definition_tree field = described_tree field.description (record {
  name = name_tree field.name;
  arguments = input_value_definition_trees field.arguments.items;
  type = type_tree field.ty;
  directives = directive_trees field.directives;
})

abbrev pub field_definition_trees : List (Node FieldDefinition) → List field_definition_kind.Tree
field_definition_trees = node_trees field_definition_tree

abbrev pub enum_value_definition_tree : EnumValueDefinition → enum_value_definition_kind.Tree
enum_value_definition_tree definition =
    described_tree definition.description (record { value = name_tree definition.value; directives = directive_trees definition.directives })

abbrev pub root_operation_tree : OperationType × Name → RootOperationTree
root_operation_tree root = record { operation_type = operation_type_tree root.0; type = name_tree root.1 }

-- WHAT A DEFINITION AND AN EXTENSION SHARE

abbrev pub scalar_type_tree : Name → DirectiveList → ScalarTypeTree
scalar_type_tree name directives = record { name = name_tree name; directives = directive_trees directives }

abbrev pub implementing_type_tree : Name → List Name → DirectiveList → List (Node FieldDefinition) → ImplementingTypeTree
implementing_type_tree name interfaces directives fields = record {
  name = name_tree name;
  interfaces = name_trees interfaces;
  directives = directive_trees directives;
  fields = field_definition_trees fields;
}

abbrev pub union_type_tree : Name → DirectiveList → List Name → UnionTypeTree
union_type_tree name directives members =
    record { name = name_tree name; directives = directive_trees directives; members = name_trees members }

abbrev pub braced_type_tree : {Member : Type 0} → Name → DirectiveList → List Member → BracedTypeTree Member
braced_type_tree name directives members =
    record { name = name_tree name; directives = directive_trees directives; members = members }

abbrev pub schema_tree : DirectiveList → List (Node (OperationType × Name)) → SchemaTree
schema_tree directives root_operations =
    record { directives = directive_trees directives; root_operations = node_trees root_operation_tree root_operations }

-- DEFINITIONS

abbrev pub schema_definition_tree : SchemaDefinition → schema_definition_kind.Tree
schema_definition_tree schema = described_tree schema.description (schema_tree schema.directives schema.root_operations.items)

abbrev pub scalar_type_definition_tree : ScalarTypeDefinition → scalar_type_definition_kind.Tree
scalar_type_definition_tree scalar = described_tree scalar.description (scalar_type_tree scalar.name scalar.directives)

abbrev pub object_type_definition_tree : ObjectTypeDefinition → object_type_definition_kind.Tree
object_type_definition_tree object =
    described_tree object.description (implementing_type_tree object.name object.implements_interfaces.items object.directives object.fields.items)

abbrev pub interface_type_definition_tree : InterfaceTypeDefinition → interface_type_definition_kind.Tree
interface_type_definition_tree interface =
    described_tree interface.description
    (implementing_type_tree interface.name interface.implements_interfaces.items interface.directives interface.fields.items)

abbrev pub union_type_definition_tree : UnionTypeDefinition → union_type_definition_kind.Tree
union_type_definition_tree union = described_tree union.description (union_type_tree union.name union.directives union.members.items)

abbrev pub enum_type_definition_tree : EnumTypeDefinition → enum_type_definition_kind.Tree
enum_type_definition_tree enum =
    described_tree enum.description (braced_type_tree enum.name enum.directives (node_trees enum_value_definition_tree enum.values.items))

abbrev pub input_object_type_definition_tree : InputObjectTypeDefinition → input_object_type_definition_kind.Tree
input_object_type_definition_tree input =
    described_tree input.description (braced_type_tree input.name input.directives (input_value_definition_trees input.fields.items))

-- EXTENSIONS

abbrev pub schema_extension_tree : SchemaExtension → schema_extension_kind.Tree
schema_extension_tree schema = schema_tree schema.directives schema.root_operations.items

abbrev pub scalar_type_extension_tree : ScalarTypeExtension → scalar_type_extension_kind.Tree
scalar_type_extension_tree scalar = scalar_type_tree scalar.name scalar.directives

abbrev pub object_type_extension_tree : ObjectTypeExtension → object_type_extension_kind.Tree
object_type_extension_tree object = implementing_type_tree object.name object.implements_interfaces.items object.directives object.fields.items

abbrev pub interface_type_extension_tree : InterfaceTypeExtension → interface_type_extension_kind.Tree
interface_type_extension_tree interface =
    implementing_type_tree interface.name interface.implements_interfaces.items interface.directives interface.fields.items

abbrev pub union_type_extension_tree : UnionTypeExtension → union_type_extension_kind.Tree
union_type_extension_tree union = union_type_tree union.name union.directives union.members.items

abbrev pub enum_type_extension_tree : EnumTypeExtension → enum_type_extension_kind.Tree
enum_type_extension_tree enum = braced_type_tree enum.name enum.directives (node_trees enum_value_definition_tree enum.values.items)

abbrev pub input_object_type_extension_tree : InputObjectTypeExtension → input_object_type_extension_kind.Tree
input_object_type_extension_tree input = braced_type_tree input.name input.directives (input_value_definition_trees input.fields.items)
