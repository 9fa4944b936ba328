-- Of nodes of any kind.

-- of Drafts and Nodes: what a node is that was begun and given members
pub mod DraftsAreNodes
-- of Nodes: a member that is such was given under its name
pub mod GivenMembers
-- of Nodes: the text of a kind, as far as it tells kinds apart
pub mod KindTexts
-- of Nodes and NodeReading: where a name stands
pub mod NameLocations
-- of ToldErrors: what is told where a member is no text
pub mod ToldTexts
-- of ToldErrors: what is told of a member, and of the first item that is of no tree
pub mod ToldMembers
