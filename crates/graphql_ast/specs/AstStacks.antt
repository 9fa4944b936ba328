-- How much room the definitions of a document need on the stacks that they are written with.
use Rattle.std.specs.Prelude.{ℕ, Bool, true, false, if◌then◌else◌}
use Rattle.graphql_text.specs.code.Stack.{IsReady}
use Rattle.graphql_text.specs.declared.place.Place.{Place}
use Rattle.graphql_values.specs.kinds.ArgumentsDefinitions.{arguments_list_depth}
use Rattle.graphql_values.specs.code.Stacks.{CanWriteDefinition}
use Rattle.graphql_executable.specs.kinds.VariableDefinitions.{variables_list_depth}
use Rattle.graphql_executable.specs.declared.stacks.ExecutableStacks.{ExecutableStacks}
use Rattle.graphql_type_system.specs.kinds.ImplementingTypes.{fields_list_depth}
use Rattle.graphql_ast.specs.Definitions.{DefinitionName, OperationDefinition, FragmentDefinition, DirectiveDefinition}
use Rattle.graphql_ast.specs.Definitions.{ObjectTypeDefinition, InterfaceTypeDefinition, InputObjectTypeDefinition, ObjectTypeExtension}
use Rattle.graphql_ast.specs.Definitions.{InterfaceTypeExtension, InputObjectTypeExtension, kind_named, DefinitionTree, definition_kind}

-- the lists around the type in a definition that has the most of them
abbrev pub list_depth_named : (name : DefinitionName) → (kind_named name).Tree → ℕ
list_depth_named OperationDefinition operation = variables_list_depth operation.body.variables
list_depth_named DirectiveDefinition definition = arguments_list_depth definition.body.arguments
list_depth_named ObjectTypeDefinition object = fields_list_depth object.body.fields
list_depth_named InterfaceTypeDefinition interface = fields_list_depth interface.body.fields
list_depth_named InputObjectTypeDefinition input = arguments_list_depth input.body.members
list_depth_named ObjectTypeExtension object = fields_list_depth object.fields
list_depth_named InterfaceTypeExtension interface = fields_list_depth interface.fields
list_depth_named InputObjectTypeExtension input = arguments_list_depth input.members
list_depth_named _ tree = 0

abbrev pub definition_list_depth : DefinitionTree → ℕ
definition_list_depth definition = list_depth_named definition.name definition.tree

-- whether a definition has selections
abbrev pub has_selections : DefinitionName → Bool
has_selections OperationDefinition = true
has_selections FragmentDefinition = true
has_selections _ = false

-- Selection sets stand in one another no deeper than the definition nests.
abbrev pub selection_depth : DefinitionTree → ℕ
selection_depth definition = if has_selections definition.name then definition_kind.nesting definition else 0

-- Definitions that nest so deep, with types of so many lists and selection sets so deep in one another, may be written: from the place on their
-- levels can be counted, and there is room for each on the empty stacks.
pub record CanWriteAst (place : Place) (stacks : ExecutableStacks) (nesting lists sets : ℕ) : Type 0 where
  pub definition : CanWriteDefinition place stacks.definitions nesting lists
  pub selections : IsReady stacks.selections sets
