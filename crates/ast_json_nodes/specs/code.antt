-- What reading makes.

-- why no tree was made of JSON
pub mod Errors
-- positions within JSON, as `fields[0].value`
pub mod Paths
-- JSON that is read as a node, in either form
pub mod JsonNodes
-- what a reader finds in a node: its kind, its members and where it stands
pub mod NodeReading
-- which error is told of JSON, and where from the node it stands
pub mod ToldErrors
