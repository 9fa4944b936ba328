-- The trees that the types of the code stand for.

-- what contracts see of numbers, and the leaves that numbers and strings are
pub mod Literals
-- of values, and what a clone of a value keeps
pub mod ValueTrees
-- of types, and what a clone of a type keeps
pub mod TypeTrees
-- of arguments and directives
pub mod DirectiveTrees
-- of operation types and directive locations; the default names of root types
pub mod LocationTrees
-- of definitions of input values and of directives
pub mod DefinitionTrees
