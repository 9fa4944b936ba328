-- The trees that vectors of the code stand for.
use Rattle.graphql_ast.specs.AstTrees.{document_tree}
use Rattle.graphql_ast.specs.DefinitionTrees.{directive_definition_tree}
use Rattle.graphql_ast.specs.ExecutableTrees.{operation_definition_tree}
use Rattle.graphql_ast.specs.TypeSystemTrees.{field_definition_tree, object_type_definition_tree, scalar_type_definition_tree}
use Rattle.graphql_ast.specs.ValueTrees.{value_tree}
use Rattle.ast_vectors.specs.Runs.{VectorTree, a_value, a_directive_definition, a_scalar_type, an_object_type, a_field_definition, an_operation, a_document}
use Rattle.ast_vectors.specs.declared.vectors.Tree.{Tree}
use Rattle.ast_vectors.specs.declared.vectors.Tree.TheVariants.{Value, DirectiveDefinition, ScalarType, ObjectType, FieldDefinition, Operation, Document}

abbrev pub vector_tree : Tree → VectorTree
vector_tree (Value value) = a_value (value_tree value)
vector_tree (DirectiveDefinition definition) = a_directive_definition (directive_definition_tree definition)
vector_tree (ScalarType definition) = a_scalar_type (scalar_type_definition_tree definition)
vector_tree (ObjectType definition) = an_object_type (object_type_definition_tree definition)
vector_tree (FieldDefinition definition) = a_field_definition (field_definition_tree definition)
vector_tree (Operation operation) = an_operation (operation_definition_tree operation)
vector_tree (Document document) = a_document (document_tree document)
