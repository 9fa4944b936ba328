-- Strings, section 2.9.4: their spellings and values, and the two forms in which they are printed.

-- the spellings of strings, quoted and block
pub mod Strings
-- BlockStringValue: what the raw value of a block string stands for
pub mod BlockStringValue
-- the quoted form that a printer gives a string
pub mod QuotedForm
-- the block form that a printer gives a string, and which strings it gives it
pub mod BlockForm
