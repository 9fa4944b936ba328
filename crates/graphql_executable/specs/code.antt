-- What calls answer, and what writers have still to write.

-- what selections and fields answer
pub mod SelectionQueries
-- what a selection is once a loan of its directives has ended
pub mod SelectionLoans
-- the variables of operations by name
pub mod OperationQueries
-- the stacks that operations, fragments and selections are written with
pub mod ExecutableStacks
-- what is still to be written of selection sets, and how far a writer has come
pub mod SelectionWalk
