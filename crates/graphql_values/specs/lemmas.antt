-- Lemmas that impls and the crates above cite, no definitions: each part and kind, and its laws.

-- of kinds.Values
pub mod Values
-- of kinds.TypeReferences
pub mod Types
-- of kinds.Arguments and kinds.Directives
pub mod Directives
-- of kinds.DefaultValues, kinds.InputValueDefinitions and kinds.ArgumentsDefinitions
pub mod InputValueDefinitions
-- of kinds.DirectiveLocations and kinds.DirectiveDefinitions
pub mod DirectiveDefinitions
-- of kinds.OperationTypes
pub mod OperationTypes
-- of the flaws of kinds: they tell what the side conditions do
pub mod FlawsTold
