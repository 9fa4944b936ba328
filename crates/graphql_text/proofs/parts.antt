-- The facts of kinds, part by part.

-- the tokens of parts as they are printed
pub mod PartTokens
-- the shape of a part told once: its tokens, brackets and nesting
pub mod ToldShapes
-- a part: its tokens, its reader and five facts; how parts follow each other
pub mod Parts
-- parts in parentheses, between braces, and names joined by a punctuator
pub mod RowParts
-- a kind by itself, one that is described, and an extension, as parts
pub mod KindParts
