-- The node, without locations, that a reference of the code is to.
use Rattle.graphql_base.specs.Node.{node_value}
use Rattle.graphql_base.specs.declared.name.Name.{Name}
use Rattle.graphql_base.specs.declared.node.Node.{Node}
use Rattle.graphql_text.specs.lexical.Literals.{NameText}
use Rattle.graphql_text.specs.trees.Leaves.{name_tree}
use Rattle.graphql_values.specs.declared.value.Value.{Value}
use Rattle.graphql_values.specs.kinds.Values.{ValueTree}
use Rattle.graphql_values.specs.trees.DefinitionTrees.{directive_definition_tree, input_value_definition_tree}
use Rattle.graphql_values.specs.trees.DirectiveTrees.{argument_tree, directive_tree}
use Rattle.graphql_values.specs.trees.TypeTrees.{type_tree}
use Rattle.graphql_values.specs.trees.ValueTrees.{value_tree}
use Rattle.graphql_executable.specs.trees.ExecutableTrees.{fragment_definition_tree, operation_definition_tree}
use Rattle.graphql_executable.specs.trees.ExecutableTrees.{field_tree, fragment_spread_tree, inline_fragment_tree, variable_definition_tree}
use Rattle.graphql_executable.specs.kinds.Fields.{selection_of_field}
use Rattle.graphql_executable.specs.kinds.InlineFragments.{selection_of_inline_fragment}
use Rattle.graphql_executable.specs.kinds.Selections.{spread_selection}
use Rattle.graphql_type_system.specs.trees.TypeSystemTrees.{enum_type_definition_tree, enum_type_extension_tree}
use Rattle.graphql_type_system.specs.trees.TypeSystemTrees.{enum_value_definition_tree, field_definition_tree, root_operation_tree}
use Rattle.graphql_type_system.specs.trees.TypeSystemTrees.{input_object_type_definition_tree, input_object_type_extension_tree}
use Rattle.graphql_type_system.specs.trees.TypeSystemTrees.{interface_type_definition_tree, interface_type_extension_tree}
use Rattle.graphql_type_system.specs.trees.TypeSystemTrees.{object_type_definition_tree, object_type_extension_tree}
use Rattle.graphql_type_system.specs.trees.TypeSystemTrees.{scalar_type_definition_tree, scalar_type_extension_tree}
use Rattle.graphql_type_system.specs.trees.TypeSystemTrees.{schema_definition_tree, schema_extension_tree}
use Rattle.graphql_type_system.specs.trees.TypeSystemTrees.{union_type_definition_tree, union_type_extension_tree}
use Rattle.graphql_ast.specs.AstTrees.{document_tree}
use Rattle.graphql_ast.specs.Definitions as name
use Rattle.graphql_ast.specs.Definitions.{DefinitionName, kind_named}
use Rattle.graphql_visit.specs.NodeTrees as node
use Rattle.graphql_visit.specs.NodeTrees.{NodeTree}
use Rattle.graphql_visit.specs.declared.node_ref.NodeRef.{NodeRef}
use Rattle.graphql_visit.specs.declared.node_ref.NodeRef.TheVariants as variant

abbrev pub definition_node : (definition : DefinitionName) → (kind_named definition).Tree → NodeTree
definition_node definition tree = node.Definition (record { name = definition; tree = tree })

-- the name and the value of a field of an object
abbrev pub object_field_tree : Name × Node Value → NameText × ValueTree
object_field_tree field = (name_tree field.0, value_tree (node_value field.1))

abbrev pub node_tree : NodeRef → NodeTree
node_tree (variant.Document document) = node.Document (document_tree document.now)
node_tree (variant.OperationDefinition ref) = definition_node name.OperationDefinition (operation_definition_tree (node_value ref.now))
node_tree (variant.FragmentDefinition ref) = definition_node name.FragmentDefinition (fragment_definition_tree (node_value ref.now))
node_tree (variant.DirectiveDefinition ref) = definition_node name.DirectiveDefinition (directive_definition_tree (node_value ref.now))
node_tree (variant.SchemaDefinition ref) = definition_node name.SchemaDefinition (schema_definition_tree (node_value ref.now))
node_tree (variant.ScalarTypeDefinition ref) = definition_node name.ScalarTypeDefinition (scalar_type_definition_tree (node_value ref.now))
node_tree (variant.ObjectTypeDefinition ref) = definition_node name.ObjectTypeDefinition (object_type_definition_tree (node_value ref.now))
node_tree (variant.InterfaceTypeDefinition ref) =
    definition_node name.InterfaceTypeDefinition (interface_type_definition_tree (node_value ref.now))
node_tree (variant.UnionTypeDefinition ref) = definition_node name.UnionTypeDefinition (union_type_definition_tree (node_value ref.now))
node_tree (variant.EnumTypeDefinition ref) = definition_node name.EnumTypeDefinition (enum_type_definition_tree (node_value ref.now))
node_tree (variant.InputObjectTypeDefinition ref) =
    definition_node name.InputObjectTypeDefinition (input_object_type_definition_tree (node_value ref.now))
node_tree (variant.SchemaExtension ref) = definition_node name.SchemaExtension (schema_extension_tree (node_value ref.now))
node_tree (variant.ScalarTypeExtension ref) = definition_node name.ScalarTypeExtension (scalar_type_extension_tree (node_value ref.now))
node_tree (variant.ObjectTypeExtension ref) = definition_node name.ObjectTypeExtension (object_type_extension_tree (node_value ref.now))
node_tree (variant.InterfaceTypeExtension ref) =
    definition_node name.InterfaceTypeExtension (interface_type_extension_tree (node_value ref.now))
node_tree (variant.UnionTypeExtension ref) = definition_node name.UnionTypeExtension (union_type_extension_tree (node_value ref.now))
node_tree (variant.EnumTypeExtension ref) = definition_node name.EnumTypeExtension (enum_type_extension_tree (node_value ref.now))
node_tree (variant.InputObjectTypeExtension ref) =
    definition_node name.InputObjectTypeExtension (input_object_type_extension_tree (node_value ref.now))
node_tree (variant.VariableDefinition ref) = node.VariableDefinition (variable_definition_tree (node_value ref.now))
node_tree (variant.Field ref) = node.Selection (selection_of_field (field_tree (node_value ref.now)))
node_tree (variant.FragmentSpread ref) = node.Selection (spread_selection (fragment_spread_tree (node_value ref.now)))
node_tree (variant.InlineFragment ref) = node.Selection (selection_of_inline_fragment (inline_fragment_tree (node_value ref.now)))
node_tree (variant.Argument ref) = node.Argument (argument_tree (node_value ref.now))
node_tree (variant.Directive ref) = node.Directive (directive_tree (node_value ref.now))
node_tree (variant.Value ref) = node.Value (value_tree (node_value ref.now))
node_tree (variant.ObjectField field) = node.ObjectField (object_field_tree field.now).0 (object_field_tree field.now).1
node_tree (variant.Type ty) = node.TypeReference (type_tree ty.now)
node_tree (variant.RootOperation ref) = node.RootOperation (root_operation_tree (node_value ref.now))
node_tree (variant.FieldDefinition ref) = node.FieldDefinition (field_definition_tree (node_value ref.now))
node_tree (variant.InputValueDefinition ref) = node.InputValueDefinition (input_value_definition_tree (node_value ref.now))
node_tree (variant.EnumValueDefinition ref) = node.EnumValueDefinition (enum_value_definition_tree (node_value ref.now))
