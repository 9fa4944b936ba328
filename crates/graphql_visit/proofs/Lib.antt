-- Lemmas on walks.

-- of Walks: one node, nodes one behind another, and a loop over nodes
pub mod Steps
-- of Readings: a walk that only reads
pub mod ReadingWalks
-- of kinds.Values: what is within values of the code
pub mod WithinValues
-- how large values are
pub mod ValueSizes
-- of kinds.Values: what is within types of the code
pub mod WithinTypes
-- of kinds.Executable: what is within selections of the code
pub mod WithinSelections
-- of Readings: what a reader has kept behind a walk
pub mod Collected
