-- Lemmas on what stands in a buffer, and on what is told of JSON.

-- of what a print wrote
pub mod Prints
-- of messages
pub mod MessageFronts
-- of prefixes of spaces and tabs
pub mod Prefixes
-- of JSON of trees that aren't well formed
pub mod FlawedTrees
