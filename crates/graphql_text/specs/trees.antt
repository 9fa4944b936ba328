-- The trees that the types of the code stand for.

-- of names, descriptions and nodes
pub mod Leaves
-- that types are compared, hashed and cloned by their trees
pub mod Comparisons
