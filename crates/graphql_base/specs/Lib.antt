-- Names, nodes and spans: what contracts see of them.

-- the syntax of a name (section 2.1.9), as tests of characters and texts
pub mod Names
-- what contracts see of a name: its text, how that is kept, its location
pub mod Name
-- why a text is made no name, and when two such errors are the same
pub mod NameErrors
-- what contracts see of a node: its value or text, and its location
pub mod Node
-- what a node is once a loan of its value has ended
pub mod NodeLoans
-- what contracts see of a file's number and of a stretch of a source text
pub mod Span
-- the span of a file from one offset to another, where there is one
pub mod Stretches
-- a text that is static, shared or in place, and where it stands
pub mod StoredTexts
-- what lets bytes be read for the whole program
pub mod StaticBytes
-- how what is shared owns its parts
pub mod formers
-- the bytes of a short text that stands in its owner
pub mod ShortTexts
