-- Lemmas that impls and the crates above cite, no definitions: each part and kind, and its laws.

-- of kinds.FragmentSpreads and kinds.SelectionHeads
pub mod Heads
-- of kinds.Selections, kinds.Fields and kinds.InlineFragments
pub mod Selections
-- of kinds.VariableDefinitions
pub mod VariableDefinitions
-- of kinds.OperationDefinitions and kinds.FragmentDefinitions
pub mod Definitions
-- of the flaws of kinds: they tell what the side conditions do
pub mod FlawsTold
