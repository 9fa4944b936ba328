-- The trees that definitions and documents of the code stand for: all of them but the locations in a source text.
use Rattle.std.specs.Prelude.{List, map}
use Rattle.graphql_base.specs.Node.{node_value}
use Rattle.graphql_executable.specs.trees.ExecutableTrees.{operation_definition_tree, fragment_definition_tree}
use Rattle.graphql_type_system.specs.trees.TypeSystemTrees.{schema_definition_tree, scalar_type_definition_tree}
use Rattle.graphql_type_system.specs.trees.TypeSystemTrees.{object_type_definition_tree, interface_type_definition_tree}
use Rattle.graphql_type_system.specs.trees.TypeSystemTrees.{union_type_definition_tree, enum_type_definition_tree}
use Rattle.graphql_type_system.specs.trees.TypeSystemTrees.{input_object_type_definition_tree, schema_extension_tree}
use Rattle.graphql_type_system.specs.trees.TypeSystemTrees.{scalar_type_extension_tree, object_type_extension_tree}
use Rattle.graphql_type_system.specs.trees.TypeSystemTrees.{interface_type_extension_tree, union_type_extension_tree}
use Rattle.graphql_type_system.specs.trees.TypeSystemTrees.{enum_type_extension_tree, input_object_type_extension_tree}
use Rattle.graphql_values.specs.trees.DefinitionTrees.{directive_definition_tree}
use Rattle.graphql_ast.specs.Definitions.{DefinitionTree}
use Rattle.graphql_ast.specs.Definitions as name
use Rattle.graphql_ast.specs.Documents.{document_kind}
use Rattle.graphql_ast.specs.declared.definition.Definition.{Definition}
use Rattle.graphql_ast.specs.declared.definition.Definition.TheVariants as definition
use Rattle.graphql_ast.specs.declared.document.Document.{Document}

abbrev pub definition_tree : Definition → DefinitionTree
definition_tree (definition.OperationDefinition node) = record { name = name.OperationDefinition; tree = operation_definition_tree (node_value node) }
definition_tree (definition.FragmentDefinition node) = record { name = name.FragmentDefinition; tree = fragment_definition_tree (node_value node) }
definition_tree (definition.DirectiveDefinition node) = record { name = name.DirectiveDefinition; tree = directive_definition_tree (node_value node) }
definition_tree (definition.SchemaDefinition node) = record { name = name.SchemaDefinition; tree = schema_definition_tree (node_value node) }
definition_tree (definition.ScalarTypeDefinition node) = record { name = name.ScalarTypeDefinition; tree = scalar_type_definition_tree (node_value node) }
definition_tree (definition.ObjectTypeDefinition node) = record { name = name.ObjectTypeDefinition; tree = object_type_definition_tree (node_value node) }
definition_tree (definition.InterfaceTypeDefinition node) =
    record { name = name.InterfaceTypeDefinition; tree = interface_type_definition_tree (node_value node) }
definition_tree (definition.UnionTypeDefinition node) = record { name = name.UnionTypeDefinition; tree = union_type_definition_tree (node_value node) }
definition_tree (definition.EnumTypeDefinition node) = record { name = name.EnumTypeDefinition; tree = enum_type_definition_tree (node_value node) }
definition_tree (definition.InputObjectTypeDefinition node) =
    record { name = name.InputObjectTypeDefinition; tree = input_object_type_definition_tree (node_value node) }
definition_tree (definition.SchemaExtension node) = record { name = name.SchemaExtension; tree = schema_extension_tree (node_value node) }
definition_tree (definition.ScalarTypeExtension node) = record { name = name.ScalarTypeExtension; tree = scalar_type_extension_tree (node_value node) }
definition_tree (definition.ObjectTypeExtension node) = record { name = name.ObjectTypeExtension; tree = object_type_extension_tree (node_value node) }
definition_tree (definition.InterfaceTypeExtension node) = record { name = name.InterfaceTypeExtension; tree = interface_type_extension_tree (node_value node) }
definition_tree (definition.UnionTypeExtension node) = record { name = name.UnionTypeExtension; tree = union_type_extension_tree (node_value node) }
definition_tree (definition.EnumTypeExtension node) = record { name = name.EnumTypeExtension; tree = enum_type_extension_tree (node_value node) }
definition_tree (definition.InputObjectTypeExtension node) =
    record { name = name.InputObjectTypeExtension; tree = input_object_type_extension_tree (node_value node) }

abbrev pub definition_trees : List Definition → List DefinitionTree
definition_trees = map definition_tree

-- The sources of a document are no part of its tree.
abbrev pub document_tree : Document → document_kind.Tree
document_tree document = definition_trees document.definitions.items
