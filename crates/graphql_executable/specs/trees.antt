-- The trees that the types of the code stand for.

-- of selections, fragments, variable definitions and operations, and what clones keep
pub mod ExecutableTrees
