-- Layouts: the items that a tree is laid out as, and their text.

-- words, strings and marks, groups of them, and the text that they give under a prefix or on one line
pub mod Layout
-- how many groups stand in one another
pub mod Nesting
-- whether the levels of a layout can be counted, and what a first pass over a tree finds
pub mod Levels
-- which tokens the text of items has, and where each of them may stand before what follows it
pub mod Spelling
-- the lines of a printed text, and how far each is indented: told by the text alone
pub mod Lines
