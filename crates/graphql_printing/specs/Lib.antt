-- What a run of the program reads, what it does with it, and how it ends.

-- the bytes that options mean for a document
pub mod Printing
-- the document that is read
pub mod Reading
-- why none is
pub mod Refusals
-- how a run ends, and what is so then
pub mod Outcomes
-- the options that the words of a command line mean
pub mod Words
