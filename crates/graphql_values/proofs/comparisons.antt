-- What the derived `==` decides: whether trees are the same.

-- of values; what is the same is cloned the same
pub mod ValueEquality
-- of types
pub mod TypeEquality
-- of arguments, directives and lists of directives
pub mod DirectiveEquality
-- of descriptions, operation types, locations, definitions of input values and of directives
pub mod DefinitionEquality
-- of ValueTrees.IsCloneOf: a clone of a list or an object has its very items
pub mod ValueClones
