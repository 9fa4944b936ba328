-- What writing and reading make.

-- nodes while they are written
pub mod Drafts
-- why no well-formed tree was made of JSON
pub mod WellFormed
-- what a reader finds within a non-null type
pub mod TypeReading
-- which error is told of values, which stand in one another
pub mod ToldValues
-- what is read of nodes in one another before the nodes that stand in them
pub mod Nesting
