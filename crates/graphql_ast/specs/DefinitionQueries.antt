-- What a definition of the code answers.
use Rattle.std.specs.Prelude.{ℕ, Bool, true, false, List, Option, Some, None, codes}
use Rattle.graphql_base.specs.declared.name.Name.{Name}
use Rattle.graphql_base.specs.declared.node.Node.{Node}
use Rattle.graphql_base.specs.declared.node_str.NodeStr.{NodeStr}
use Rattle.graphql_base.specs.declared.span.SourceSpan.{SourceSpan}
use Rattle.graphql_base.specs.Node.{node_location, node_value}
use Rattle.graphql_values.specs.kinds.OperationTypes.{operation_type_name}
use Rattle.graphql_values.specs.trees.LocationTrees.{operation_type_tree}
use Rattle.graphql_values.specs.declared.directive_list.DirectiveList.{DirectiveList}
use Rattle.graphql_executable.specs.declared.selection.Selection.{Selection}
use Rattle.graphql_executable.specs.declared.operation_definition.OperationDefinition.{OperationDefinition}
use Rattle.graphql_executable.specs.declared.fragment_definition.FragmentDefinition.{FragmentDefinition}
use Rattle.graphql_values.specs.declared.directive_definition.DirectiveDefinition.{DirectiveDefinition}
use Rattle.graphql_type_system.specs.declared.schema.SchemaDefinition.{SchemaDefinition}
use Rattle.graphql_type_system.specs.declared.scalar_type.ScalarTypeDefinition.{ScalarTypeDefinition}
use Rattle.graphql_type_system.specs.declared.object_type.ObjectTypeDefinition.{ObjectTypeDefinition}
use Rattle.graphql_type_system.specs.declared.interface_type.InterfaceTypeDefinition.{InterfaceTypeDefinition}
use Rattle.graphql_type_system.specs.declared.union_type.UnionTypeDefinition.{UnionTypeDefinition}
use Rattle.graphql_type_system.specs.declared.enum_type.EnumTypeDefinition.{EnumTypeDefinition}
use Rattle.graphql_type_system.specs.declared.input_object_type.InputObjectTypeDefinition.{InputObjectTypeDefinition}
use Rattle.graphql_type_system.specs.declared.schema.SchemaExtension.{SchemaExtension}
use Rattle.graphql_type_system.specs.declared.scalar_type.ScalarTypeExtension.{ScalarTypeExtension}
use Rattle.graphql_type_system.specs.declared.object_type.ObjectTypeExtension.{ObjectTypeExtension}
use Rattle.graphql_type_system.specs.declared.interface_type.InterfaceTypeExtension.{InterfaceTypeExtension}
use Rattle.graphql_type_system.specs.declared.union_type.UnionTypeExtension.{UnionTypeExtension}
use Rattle.graphql_type_system.specs.declared.enum_type.EnumTypeExtension.{EnumTypeExtension}
use Rattle.graphql_type_system.specs.declared.input_object_type.InputObjectTypeExtension.{InputObjectTypeExtension}
use Rattle.graphql_ast.specs.declared.definition.Definition.{Definition}
use Rattle.graphql_ast.specs.declared.definition.Definition.TheVariants as variant

-- whether it is an operation or a fragment (ExecutableDefinition, section 2.2)
abbrev pub is_executable : Definition → Bool
is_executable (variant.OperationDefinition node) = true
is_executable (variant.FragmentDefinition node) = true
is_executable _ = false

-- whether it defines a type (TypeDefinition, section 3.4)
abbrev pub is_type_definition : Definition → Bool
is_type_definition (variant.ScalarTypeDefinition node) = true
is_type_definition (variant.ObjectTypeDefinition node) = true
is_type_definition (variant.InterfaceTypeDefinition node) = true
is_type_definition (variant.UnionTypeDefinition node) = true
is_type_definition (variant.EnumTypeDefinition node) = true
is_type_definition (variant.InputObjectTypeDefinition node) = true
is_type_definition _ = false

-- whether it is an extension of the schema or of a type (TypeSystemExtension, section 3.1)
abbrev pub is_extension : Definition → Bool
is_extension (variant.SchemaExtension node) = true
is_extension (variant.ScalarTypeExtension node) = true
is_extension (variant.ObjectTypeExtension node) = true
is_extension (variant.InterfaceTypeExtension node) = true
is_extension (variant.UnionTypeExtension node) = true
is_extension (variant.EnumTypeExtension node) = true
is_extension (variant.InputObjectTypeExtension node) = true
is_extension _ = false

-- the location of its node
abbrev pub definition_location : Definition → Option SourceSpan
definition_location (variant.OperationDefinition node) = node_location node
definition_location (variant.FragmentDefinition node) = node_location node
definition_location (variant.DirectiveDefinition node) = node_location node
definition_location (variant.SchemaDefinition node) = node_location node
definition_location (variant.ScalarTypeDefinition node) = node_location node
definition_location (variant.ObjectTypeDefinition node) = node_location node
definition_location (variant.InterfaceTypeDefinition node) = node_location node
definition_location (variant.UnionTypeDefinition node) = node_location node
definition_location (variant.EnumTypeDefinition node) = node_location node
definition_location (variant.InputObjectTypeDefinition node) = node_location node
definition_location (variant.SchemaExtension node) = node_location node
definition_location (variant.ScalarTypeExtension node) = node_location node
definition_location (variant.ObjectTypeExtension node) = node_location node
definition_location (variant.InterfaceTypeExtension node) = node_location node
definition_location (variant.UnionTypeExtension node) = node_location node
definition_location (variant.EnumTypeExtension node) = node_location node
definition_location (variant.InputObjectTypeExtension node) = node_location node

-- The words of the grammar that it begins with, behind its description. An operation without them, in shorthand, is a query.
abbrev pub definition_kind_name : Definition → List ℕ
definition_kind_name (variant.OperationDefinition node) = operation_type_name (operation_type_tree (node_value node).operation_type)
definition_kind_name (variant.FragmentDefinition node) = codes "fragment"
definition_kind_name (variant.DirectiveDefinition node) = codes "directive"
definition_kind_name (variant.SchemaDefinition node) = codes "schema"
definition_kind_name (variant.ScalarTypeDefinition node) = codes "scalar"
definition_kind_name (variant.ObjectTypeDefinition node) = codes "type"
definition_kind_name (variant.InterfaceTypeDefinition node) = codes "interface"
definition_kind_name (variant.UnionTypeDefinition node) = codes "union"
definition_kind_name (variant.EnumTypeDefinition node) = codes "enum"
definition_kind_name (variant.InputObjectTypeDefinition node) = codes "input"
definition_kind_name (variant.SchemaExtension node) = codes "extend schema"
definition_kind_name (variant.ScalarTypeExtension node) = codes "extend scalar"
definition_kind_name (variant.ObjectTypeExtension node) = codes "extend type"
definition_kind_name (variant.InterfaceTypeExtension node) = codes "extend interface"
definition_kind_name (variant.UnionTypeExtension node) = codes "extend union"
definition_kind_name (variant.EnumTypeExtension node) = codes "extend enum"
definition_kind_name (variant.InputObjectTypeExtension node) = codes "extend input"

-- The string before it. Extensions have none.
abbrev pub definition_description : Definition → Option NodeStr
definition_description (variant.OperationDefinition node) = (node_value node).description
definition_description (variant.FragmentDefinition node) = (node_value node).description
definition_description (variant.DirectiveDefinition node) = (node_value node).description
definition_description (variant.SchemaDefinition node) = (node_value node).description
definition_description (variant.ScalarTypeDefinition node) = (node_value node).description
definition_description (variant.ObjectTypeDefinition node) = (node_value node).description
definition_description (variant.InterfaceTypeDefinition node) = (node_value node).description
definition_description (variant.UnionTypeDefinition node) = (node_value node).description
definition_description (variant.EnumTypeDefinition node) = (node_value node).description
definition_description (variant.InputObjectTypeDefinition node) = (node_value node).description
definition_description _ = None

-- Its name. Definitions and extensions of schemas have none, and an operation may have one.
abbrev pub definition_name : Definition → Option Name
definition_name (variant.OperationDefinition node) = (node_value node).name
definition_name (variant.FragmentDefinition node) = Some (node_value node).name
definition_name (variant.DirectiveDefinition node) = Some (node_value node).name
definition_name (variant.SchemaDefinition node) = None
definition_name (variant.ScalarTypeDefinition node) = Some (node_value node).name
definition_name (variant.ObjectTypeDefinition node) = Some (node_value node).name
definition_name (variant.InterfaceTypeDefinition node) = Some (node_value node).name
definition_name (variant.UnionTypeDefinition node) = Some (node_value node).name
definition_name (variant.EnumTypeDefinition node) = Some (node_value node).name
definition_name (variant.InputObjectTypeDefinition node) = Some (node_value node).name
definition_name (variant.SchemaExtension node) = None
definition_name (variant.ScalarTypeExtension node) = Some (node_value node).name
definition_name (variant.ObjectTypeExtension node) = Some (node_value node).name
definition_name (variant.InterfaceTypeExtension node) = Some (node_value node).name
definition_name (variant.UnionTypeExtension node) = Some (node_value node).name
definition_name (variant.EnumTypeExtension node) = Some (node_value node).name
definition_name (variant.InputObjectTypeExtension node) = Some (node_value node).name

-- The directives that stand in it. In a definition of a directive there can be none.
abbrev pub definition_directives : Definition → Option DirectiveList
definition_directives (variant.OperationDefinition node) = Some (node_value node).directives
definition_directives (variant.FragmentDefinition node) = Some (node_value node).directives
definition_directives (variant.DirectiveDefinition node) = None
definition_directives (variant.SchemaDefinition node) = Some (node_value node).directives
definition_directives (variant.ScalarTypeDefinition node) = Some (node_value node).directives
definition_directives (variant.ObjectTypeDefinition node) = Some (node_value node).directives
definition_directives (variant.InterfaceTypeDefinition node) = Some (node_value node).directives
definition_directives (variant.UnionTypeDefinition node) = Some (node_value node).directives
definition_directives (variant.EnumTypeDefinition node) = Some (node_value node).directives
definition_directives (variant.InputObjectTypeDefinition node) = Some (node_value node).directives
definition_directives (variant.SchemaExtension node) = Some (node_value node).directives
definition_directives (variant.ScalarTypeExtension node) = Some (node_value node).directives
definition_directives (variant.ObjectTypeExtension node) = Some (node_value node).directives
definition_directives (variant.InterfaceTypeExtension node) = Some (node_value node).directives
definition_directives (variant.UnionTypeExtension node) = Some (node_value node).directives
definition_directives (variant.EnumTypeExtension node) = Some (node_value node).directives
definition_directives (variant.InputObjectTypeExtension node) = Some (node_value node).directives

-- What is selected. Operations and fragments alone have selections.
abbrev pub definition_selection_set : Definition → Option (List Selection)
definition_selection_set (variant.OperationDefinition node) = Some (node_value node).selection_set.items
definition_selection_set (variant.FragmentDefinition node) = Some (node_value node).selection_set.items
definition_selection_set _ = None

-- its node, if it is of that variant
abbrev pub operation_definition_of : Definition → Option (Node OperationDefinition)
operation_definition_of (variant.OperationDefinition node) = Some node
operation_definition_of _ = None

abbrev pub fragment_definition_of : Definition → Option (Node FragmentDefinition)
fragment_definition_of (variant.FragmentDefinition node) = Some node
fragment_definition_of _ = None

abbrev pub directive_definition_of : Definition → Option (Node DirectiveDefinition)
directive_definition_of (variant.DirectiveDefinition node) = Some node
directive_definition_of _ = None

abbrev pub schema_definition_of : Definition → Option (Node SchemaDefinition)
schema_definition_of (variant.SchemaDefinition node) = Some node
schema_definition_of _ = None

abbrev pub scalar_type_definition_of : Definition → Option (Node ScalarTypeDefinition)
scalar_type_definition_of (variant.ScalarTypeDefinition node) = Some node
scalar_type_definition_of _ = None

abbrev pub object_type_definition_of : Definition → Option (Node ObjectTypeDefinition)
object_type_definition_of (variant.ObjectTypeDefinition node) = Some node
object_type_definition_of _ = None

abbrev pub interface_type_definition_of : Definition → Option (Node InterfaceTypeDefinition)
interface_type_definition_of (variant.InterfaceTypeDefinition node) = Some node
interface_type_definition_of _ = None

abbrev pub union_type_definition_of : Definition → Option (Node UnionTypeDefinition)
union_type_definition_of (variant.UnionTypeDefinition node) = Some node
union_type_definition_of _ = None

abbrev pub enum_type_definition_of : Definition → Option (Node EnumTypeDefinition)
enum_type_definition_of (variant.EnumTypeDefinition node) = Some node
enum_type_definition_of _ = None

abbrev pub input_object_type_definition_of : Definition → Option (Node InputObjectTypeDefinition)
input_object_type_definition_of (variant.InputObjectTypeDefinition node) = Some node
input_object_type_definition_of _ = None

abbrev pub schema_extension_of : Definition → Option (Node SchemaExtension)
schema_extension_of (variant.SchemaExtension node) = Some node
schema_extension_of _ = None

abbrev pub scalar_type_extension_of : Definition → Option (Node ScalarTypeExtension)
scalar_type_extension_of (variant.ScalarTypeExtension node) = Some node
scalar_type_extension_of _ = None

abbrev pub object_type_extension_of : Definition → Option (Node ObjectTypeExtension)
object_type_extension_of (variant.ObjectTypeExtension node) = Some node
object_type_extension_of _ = None

abbrev pub interface_type_extension_of : Definition → Option (Node InterfaceTypeExtension)
interface_type_extension_of (variant.InterfaceTypeExtension node) = Some node
interface_type_extension_of _ = None

abbrev pub union_type_extension_of : Definition → Option (Node UnionTypeExtension)
union_type_extension_of (variant.UnionTypeExtension node) = Some node
union_type_extension_of _ = None

abbrev pub enum_type_extension_of : Definition → Option (Node EnumTypeExtension)
enum_type_extension_of (variant.EnumTypeExtension node) = Some node
enum_type_extension_of _ = None

abbrev pub input_object_type_extension_of : Definition → Option (Node InputObjectTypeExtension)
input_object_type_extension_of (variant.InputObjectTypeExtension node) = Some node
input_object_type_extension_of _ = None
