-- Documents: definitions, and documents of them. Then, under their own names, the pages of the crates below that contracts cite.

-- definitions, section 2.2: each of the seventeen kinds is one
pub mod Definitions
-- documents, section 2.2
pub mod Documents
-- the trees that definitions and documents of the code stand for
pub mod AstTrees
-- what a definition of the code answers
pub mod DefinitionQueries
-- what a document of the code answers, by name too
pub mod DocumentQueries
-- the source texts of a document, which are no part of its tree
pub mod Sources
-- lines and columns of these texts, as messages name them
pub mod LinesAndColumns
-- what changes in a document
pub mod DocumentChanges
-- how much room the definitions of a document need on the stacks that they are written with
pub mod AstStacks
-- examples that laws speak of
pub mod examples
-- lemmas that impls and laws cite, no definitions: definitions and documents as parts, and their laws
pub mod lemmas
-- what the crates below say of names and nodes, of texts and prints, and of each kind: all but what writers and lemmas need
pub use Rattle.graphql_base.specs.Name
pub use Rattle.graphql_base.specs.NameErrors
pub use Rattle.graphql_base.specs.Names
pub use Rattle.graphql_base.specs.Node
pub use Rattle.graphql_base.specs.NodeLoans
pub use Rattle.graphql_base.specs.Span
pub use Rattle.graphql_base.specs.StoredTexts
pub use Rattle.graphql_text.specs.lexical.Characters
pub use Rattle.graphql_text.specs.strings.BlockStringValue
pub use Rattle.graphql_text.specs.strings.Strings
pub use Rattle.graphql_text.specs.lexical.Tokens
pub use Rattle.graphql_text.specs.strings.QuotedForm
pub use Rattle.graphql_text.specs.strings.BlockForm
pub use Rattle.graphql_text.specs.lexical.Literals as LiteralSyntax
pub use Rattle.graphql_text.specs.layout.Layout
pub use Rattle.graphql_text.specs.layout.Nesting
pub use Rattle.graphql_text.specs.parts.Greatest
pub use Rattle.graphql_text.specs.layout.Lines
pub use Rattle.graphql_text.specs.layout.Levels
pub use Rattle.graphql_text.specs.grammar.Forms
pub use Rattle.graphql_text.specs.grammar.OneReading
pub use Rattle.graphql_text.specs.kinds.Kinds
pub use Rattle.graphql_text.specs.parts.Optional
pub use Rattle.graphql_text.specs.parts.Descriptions
pub use Rattle.graphql_text.specs.parts.Extensions
pub use Rattle.graphql_text.specs.parts.Members
pub use Rattle.graphql_text.specs.parts.Parentheses
pub use Rattle.graphql_text.specs.parts.JoinedNames
pub use Rattle.graphql_text.specs.trees.Leaves
pub use Rattle.graphql_text.specs.kinds.Reading
pub use Rattle.graphql_text.specs.kinds.Printing
pub use Rattle.graphql_text.specs.kinds.PrintedKinds
pub use Rattle.graphql_text.specs.parts.PrintedParts
pub use Rattle.graphql_text.specs.layout.Spelling
pub use Rattle.graphql_text.specs.code.Sinks
pub use Rattle.graphql_text.specs.code.Stream
pub use Rattle.graphql_text.specs.trees.Comparisons
pub use Rattle.graphql_values.specs.kinds.Values
pub use Rattle.graphql_values.specs.kinds.TypeReferences
pub use Rattle.graphql_values.specs.kinds.Wrappings
pub use Rattle.graphql_values.specs.kinds.Arguments
pub use Rattle.graphql_values.specs.kinds.Directives
pub use Rattle.graphql_values.specs.kinds.DefaultValues
pub use Rattle.graphql_values.specs.kinds.InputValueDefinitions
pub use Rattle.graphql_values.specs.kinds.ArgumentsDefinitions
pub use Rattle.graphql_values.specs.kinds.OperationTypes
pub use Rattle.graphql_values.specs.kinds.DirectiveLocations
pub use Rattle.graphql_values.specs.kinds.DirectiveDefinitions
pub use Rattle.graphql_values.specs.trees.Literals
pub use Rattle.graphql_values.specs.trees.ValueTrees
pub use Rattle.graphql_values.specs.trees.TypeTrees
pub use Rattle.graphql_values.specs.trees.DirectiveTrees
pub use Rattle.graphql_values.specs.trees.LocationTrees
pub use Rattle.graphql_values.specs.trees.DefinitionTrees
pub use Rattle.graphql_values.specs.code.ValueQueries
pub use Rattle.graphql_values.specs.code.Queries
pub use Rattle.graphql_values.specs.code.ArgumentValues
pub use Rattle.graphql_values.specs.code.Loans
pub use Rattle.graphql_executable.specs.kinds.VariableDefinitions
pub use Rattle.graphql_executable.specs.kinds.FragmentNames
pub use Rattle.graphql_executable.specs.kinds.FragmentSpreads
pub use Rattle.graphql_executable.specs.kinds.SelectionHeads
pub use Rattle.graphql_executable.specs.kinds.Selections
pub use Rattle.graphql_executable.specs.kinds.Fields
pub use Rattle.graphql_executable.specs.kinds.InlineFragments
pub use Rattle.graphql_executable.specs.kinds.OperationDefinitions
pub use Rattle.graphql_executable.specs.kinds.FragmentDefinitions
pub use Rattle.graphql_executable.specs.trees.ExecutableTrees
pub use Rattle.graphql_executable.specs.code.SelectionQueries
pub use Rattle.graphql_executable.specs.code.OperationQueries
pub use Rattle.graphql_type_system.specs.kinds.Keywords
pub use Rattle.graphql_type_system.specs.kinds.Schemas
pub use Rattle.graphql_type_system.specs.kinds.ScalarTypes
pub use Rattle.graphql_type_system.specs.kinds.FieldDefinitions
pub use Rattle.graphql_type_system.specs.kinds.ImplementingTypes
pub use Rattle.graphql_type_system.specs.kinds.ObjectTypes
pub use Rattle.graphql_type_system.specs.kinds.InterfaceTypes
pub use Rattle.graphql_type_system.specs.kinds.UnionTypes
pub use Rattle.graphql_type_system.specs.kinds.EnumValueDefinitions
pub use Rattle.graphql_type_system.specs.kinds.BracedTypes
pub use Rattle.graphql_type_system.specs.kinds.EnumTypes
pub use Rattle.graphql_type_system.specs.kinds.InputObjectTypes
pub use Rattle.graphql_type_system.specs.trees.TypeSystemTrees
pub use Rattle.graphql_type_system.specs.code.TypeSystemQueries
