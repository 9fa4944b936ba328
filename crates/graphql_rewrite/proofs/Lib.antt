-- Lemmas on trees that are rewritten.

-- of Outcomes: lists that are made item by item
pub mod Lists
-- of kinds.Values: what is made of values of the code
pub mod ValuesMade
-- of kinds.Executable: what is made of selections of the code
pub mod SelectionsMade
-- of kinds.Documents: what is made of a definition of the code
pub mod DefinitionsMade
-- of Sources: clones of sources
pub mod SourcesCloned
-- of Concatenations: definitions one behind another
pub mod Concatenated
-- of DefinitionOrder: what is sorted by it
pub mod DefinitionsSorted
-- of FieldRewritings: sets of the code that get a field
pub mod FieldsMade
-- of DirectiveRewritings: directives of the code that are left
pub mod DirectivesLeft
-- of VariableRewritings: variables of the code that values take the place of
pub mod VariablesReplaced
-- of SideConditions: what is made of each kind
pub mod SideConditionsKept
-- of SideConditions: what the ready rewritings keep
pub mod ReadyKept
