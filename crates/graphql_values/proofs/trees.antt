-- Of the trees that types of the code stand for.

-- of ValueTrees: the trees of a list and of an object
pub mod ListAndObjectTrees
