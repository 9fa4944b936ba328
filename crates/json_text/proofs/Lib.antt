-- Lemmas on JSON as text.

-- a byte that has no escape stands for itself
pub mod EscapedBytes
-- Of Texts: an object is written member after member
pub mod ObjectTexts
-- Of Texts: an array is written item after item
pub mod ArrayTexts
-- Of Texts: objects whose members stand in the order of their names
pub mod Entries
-- Of Texts: what is plain, and that its text is read as it
pub mod PlainTexts
