-- The trees that the types of the code stand for.

-- of definitions and extensions
pub mod TypeSystemTrees
