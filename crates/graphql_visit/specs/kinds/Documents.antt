-- What is within definitions and documents.
use Rattle.std.specs.Prelude.{List}
use Rattle.graphql_ast.specs.Definitions.{DefinitionName, DefinitionTree, kind_named}
use Rattle.graphql_ast.specs.Definitions as name
use Rattle.graphql_visit.specs.NodeTrees.{Definition, Document}
use Rattle.graphql_visit.specs.Visits.{Visits, Visited, each}
use Rattle.graphql_visit.specs.kinds.Executable.{within_operation, within_fragment}
use Rattle.graphql_visit.specs.kinds.TypeSystem.{within_directive_definition, within_schema, within_scalar_type, within_implementing_type}
use Rattle.graphql_visit.specs.kinds.TypeSystem.{within_union_type, within_braced_type, enum_value_definition_visited}
use Rattle.graphql_visit.specs.kinds.Values.{input_value_definition_visited}

-- within a definition of this name
abbrev pub within_definition : (definition : DefinitionName) → (kind_named definition).Tree → Visits
within_definition name.OperationDefinition tree = within_operation tree
within_definition name.FragmentDefinition tree = within_fragment tree
within_definition name.DirectiveDefinition tree = within_directive_definition tree
within_definition name.SchemaDefinition tree = within_schema tree.body
within_definition name.ScalarTypeDefinition tree = within_scalar_type tree.body
within_definition name.ObjectTypeDefinition tree = within_implementing_type tree.body
within_definition name.InterfaceTypeDefinition tree = within_implementing_type tree.body
within_definition name.UnionTypeDefinition tree = within_union_type tree.body
within_definition name.EnumTypeDefinition tree = within_braced_type enum_value_definition_visited tree.body
within_definition name.InputObjectTypeDefinition tree = within_braced_type input_value_definition_visited tree.body
within_definition name.SchemaExtension tree = within_schema tree
within_definition name.ScalarTypeExtension tree = within_scalar_type tree
within_definition name.ObjectTypeExtension tree = within_implementing_type tree
within_definition name.InterfaceTypeExtension tree = within_implementing_type tree
within_definition name.UnionTypeExtension tree = within_union_type tree
within_definition name.EnumTypeExtension tree = within_braced_type enum_value_definition_visited tree
within_definition name.InputObjectTypeExtension tree = within_braced_type input_value_definition_visited tree

-- a definition of this name alone
abbrev pub definition_named : (definition : DefinitionName) → Visited (kind_named definition).Tree
definition_named definition =
    record { node = λ tree. Definition (record { name = definition; tree = tree }); within = within_definition definition }

-- a definition of any name
abbrev pub definition_visited : Visited DefinitionTree
definition_visited = record { node = Definition; within = λ definition. within_definition definition.name definition.tree }

abbrev pub document_visited : Visited (List DefinitionTree)
document_visited = record { node = Document; within = each definition_visited }
