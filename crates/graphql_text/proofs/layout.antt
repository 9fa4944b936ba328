-- Of layouts and their text.

-- of Layout.text_of_items: it goes item by item, and only the level counts
pub mod TextOfItems
-- of Layout and Tokens: the text of items lexes as the tokens that they give, in every layout
pub mod LayoutLexes
-- of Layout: layouts are made of Unicode scalar values
pub mod LayoutScalars
-- of Spelling: how what parts spell follows on
pub mod SpellingByParts
-- of Layout and Nesting: how brackets fit marks, and how deep groups nest, told part by part
pub mod BracketsByParts
-- of Lines: how a scan of lines goes on, character by character
pub mod LineScan
-- of Lines: how the scan goes over a string
pub mod LineScanOfStrings
-- of Lines: how the scan goes over a block string
pub mod LineScanOfBlockStrings
-- of Lines: the lines of a layout are indented under a prefix, and without one there are none
pub mod LinesAreIndented
