-- Lemmas on nodes that are written as text.

-- nodes whose members stand one behind the other
pub mod FilledNodes
-- where they tell that they stand
pub mod Locations
-- lists that are written item by item
pub mod AddedItems
-- flags
pub mod Flags
