-- The source locations in a tree of each kind, in the order in which its parts are declared.

-- types, values, arguments, directives and definitions of input values
pub mod Values
-- selections, operations and fragments
pub mod Executable
-- definitions and extensions of the type system
pub mod TypeSystem
-- definitions and documents
pub mod Documents
