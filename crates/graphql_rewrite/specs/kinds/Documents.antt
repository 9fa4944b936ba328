-- What is made of definitions and documents.
use Rattle.std.specs.Prelude.{List, map}
use Rattle.graphql_ast.specs.Definitions.{DefinitionName, DefinitionTree, kind_named}
use Rattle.graphql_ast.specs.Definitions as name
use Rattle.graphql_rewrite.specs.Rewritings.{Rewriting}
use Rattle.graphql_rewrite.specs.kinds.Executable.{rewritten_fragment_definition, rewritten_operation_definition}
use Rattle.graphql_rewrite.specs.kinds.TypeSystem.{rewritten_braced_type, rewritten_directive_definition, rewritten_enum_value_definition}
use Rattle.graphql_rewrite.specs.kinds.TypeSystem.{rewritten_implementing_type, rewritten_scalar_type, rewritten_schema, rewritten_union_type}
use Rattle.graphql_rewrite.specs.kinds.Values.{with_body, rewritten_input_value_definition}

module _ (f : Rewriting) where
  -- of a definition of this name
  abbrev pub rewritten_named : (definition : DefinitionName) → (kind_named definition).Tree → (kind_named definition).Tree
  rewritten_named name.OperationDefinition = rewritten_operation_definition f
  rewritten_named name.FragmentDefinition = rewritten_fragment_definition f
  rewritten_named name.DirectiveDefinition = rewritten_directive_definition f
  rewritten_named name.SchemaDefinition = with_body (rewritten_schema f)
  rewritten_named name.ScalarTypeDefinition = with_body (rewritten_scalar_type f)
  rewritten_named name.ObjectTypeDefinition = with_body (rewritten_implementing_type f)
  rewritten_named name.InterfaceTypeDefinition = with_body (rewritten_implementing_type f)
  rewritten_named name.UnionTypeDefinition = with_body (rewritten_union_type f)
  rewritten_named name.EnumTypeDefinition = with_body (rewritten_braced_type f (rewritten_enum_value_definition f))
  rewritten_named name.InputObjectTypeDefinition = with_body (rewritten_braced_type f (rewritten_input_value_definition f))
  rewritten_named name.SchemaExtension = rewritten_schema f
  rewritten_named name.ScalarTypeExtension = rewritten_scalar_type f
  rewritten_named name.ObjectTypeExtension = rewritten_implementing_type f
  rewritten_named name.InterfaceTypeExtension = rewritten_implementing_type f
  rewritten_named name.UnionTypeExtension = rewritten_union_type f
  rewritten_named name.EnumTypeExtension = rewritten_braced_type f (rewritten_enum_value_definition f)
  rewritten_named name.InputObjectTypeExtension = rewritten_braced_type f (rewritten_input_value_definition f)

  abbrev pub rewritten_definition : DefinitionTree → DefinitionTree
  rewritten_definition definition = record { name = definition.name; tree = rewritten_named definition.name definition.tree }

  abbrev pub rewritten_document : List DefinitionTree → List DefinitionTree
  rewritten_document = map rewritten_definition
