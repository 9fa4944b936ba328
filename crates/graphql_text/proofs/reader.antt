-- A reader of tokens that computes, and that it finds what Tokens.Lexes says.

-- the reader
pub mod TokenReader
-- it passes over ignored stretches
pub mod IgnoredRead
-- it reads numbers
pub mod NumbersRead
-- it reads strings, quoted and block
pub mod StringsRead
-- it answers each token list that a text lexes to, so there is one at most
pub mod ReaderComplete
-- what it answers, the text lexes to
pub mod ReaderSound
