-- A node of any kind, without locations.
use Rattle.std.specs.Prelude.{List}
use Rattle.graphql_text.specs.lexical.Literals.{NameText}
use Rattle.graphql_values.specs.kinds.Arguments.{ArgumentTree}
use Rattle.graphql_values.specs.kinds.Directives.{DirectiveTree}
use Rattle.graphql_values.specs.kinds.InputValueDefinitions.{input_value_definition_kind}
use Rattle.graphql_values.specs.kinds.TypeReferences.{TypeTree}
use Rattle.graphql_values.specs.kinds.Values.{ValueTree}
use Rattle.graphql_executable.specs.kinds.Selections.{SelectionTree}
use Rattle.graphql_executable.specs.kinds.VariableDefinitions.{variable_definition_kind}
use Rattle.graphql_type_system.specs.kinds.EnumValueDefinitions.{enum_value_definition_kind}
use Rattle.graphql_type_system.specs.kinds.FieldDefinitions.{field_definition_kind}
use Rattle.graphql_type_system.specs.kinds.Schemas.{RootOperationTree}
use Rattle.graphql_ast.specs.Definitions.{DefinitionTree}

pub data NodeTree : Type 0 where
  -- Document, section 2.2
  Document : List DefinitionTree → NodeTree
  -- Definition, section 2.2
  Definition : DefinitionTree → NodeTree
  -- VariableDefinition, section 2.10
  VariableDefinition : variable_definition_kind.Tree → NodeTree
  -- Selection, section 2.4
  Selection : SelectionTree → NodeTree
  -- Argument, section 2.6
  Argument : ArgumentTree → NodeTree
  -- Directive, section 2.12
  Directive : DirectiveTree → NodeTree
  -- Value, section 2.9, and ObjectField, section 2.9.8
  Value : ValueTree → NodeTree
  ObjectField : NameText → ValueTree → NodeTree
  -- Type, section 2.11
  TypeReference : TypeTree → NodeTree
  -- RootOperationTypeDefinition, section 3.3
  RootOperation : RootOperationTree → NodeTree
  -- FieldDefinition and InputValueDefinition, section 3.6, and EnumValueDefinition, section 3.9
  FieldDefinition : field_definition_kind.Tree → NodeTree
  InputValueDefinition : input_value_definition_kind.Tree → NodeTree
  EnumValueDefinition : enum_value_definition_kind.Tree → NodeTree
