-- Kinds of trees: what is printed, and what it is to be read as it.

-- what is wrong with a tree that isn't well formed
pub mod Flaws
-- a kind: its trees, grammar, side conditions and flaws, layout and nesting
pub mod Kinds
-- what it is for a text, or for bytes, to be read as a tree; the laws of a kind
pub mod Reading
-- what a print is asked for, and how what was printed is read
pub mod Printing
-- what is promised of a kind that is printed, for the type of the code whose values are its trees
pub mod PrintedKinds
