-- The nodes within a node of each kind, in the order of the grammar.

-- values, arguments, directives, types and definitions of input values
pub mod Values
-- selections, operations and fragments
pub mod Executable
-- definitions and extensions of the type system
pub mod TypeSystem
-- definitions and documents
pub mod Documents
