-- Of nodes of any kind.

-- of Nodes: whether a name is one of some names
pub mod NamesAmong
-- of JsonNodes.member_names: the names of members alone, as they stand in order
pub mod MemberNames
-- of Nodes: the names of the members of JSON that was parsed
pub mod ParsedNames
-- of JsonNodes: what tells the type of JSON
pub mod JsonTypes
-- of Nodes.Each: lists of nodes go item by item
pub mod NodeLists
-- what stands inside of JSON nests less deep than the JSON
pub mod JsonDepths
-- of Nodes: a location whose members are `end` and `start` alone
pub mod TwoOffsets
-- of Offsets: units of characters, and where a text is cut by them
pub mod OffsetUnits
