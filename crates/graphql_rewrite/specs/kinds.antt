-- The tree that a rewriting makes of a tree of each kind: of the parts first, and then of the whole, in the order of the grammar.

-- values, arguments, directives and definitions of input values
pub mod Values
-- selections, operations and fragments
pub mod Executable
-- definitions and extensions of the type system
pub mod TypeSystem
-- definitions and documents
pub mod Documents
