-- Of the layouts of kinds, as writers go through them.

-- of Selections: trees, nesting and side conditions of each selection
pub mod SelectionShapes
-- of OperationDefinitions: the layout in shorthand, and in full
pub mod OperationShapes
