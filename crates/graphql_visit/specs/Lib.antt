-- Walks over trees.

-- a node of any kind
pub mod NodeTrees
-- the nodes of a tree in order, each with those within it
pub mod Visits
-- the same, kind by kind
pub mod kinds
-- the node that a reference is to
pub mod NodeRefs
-- what a walk does
pub mod Walks
-- what a walk does that only reads
pub mod Readings
-- the variables of nodes
pub mod Variables
