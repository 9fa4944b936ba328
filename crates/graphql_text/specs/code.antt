-- What the code does.

-- the mode of a place: its prefix, or one line
pub mod Place
-- what a writer does with the items of a layout
pub mod Writing
-- what is left of a comma group or curly group from an item on, for writers that go item by item
pub mod Groups
-- what a stack holds, and how many entries it has room for
pub mod Stack
-- what waits on a stack to be written, for a writer that goes through a tree by a stack
pub mod PendingStack
-- what a search for flaws answers
pub mod IllFormed
-- what bytes do to a sink
pub mod Sinks
-- what contracts see of a sink over a writer
pub mod Stream
-- the texts of breaks at hand
pub mod Breaks
-- the bytes that wait in a buffer
pub mod Buffer
-- what was written to a text that grows and to a formatter, until a write failed
pub mod Targets
