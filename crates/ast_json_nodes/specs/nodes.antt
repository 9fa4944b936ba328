-- Nodes of any kind.

-- nodes in JSON: objects with a kind, members and perhaps a location
pub mod Nodes
-- laws of the relation between trees and JSON
pub mod OneTree
-- what the offsets of locations count, and which byte of a text they mean
pub mod Offsets
