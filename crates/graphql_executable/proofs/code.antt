-- Of what writers do.

-- of SelectionWalk: how selection sets are begun, gone on with and finished
pub mod SelectionWalkSteps
-- of ExecutableStacks: the stacks are emptied again and again
pub mod ExecutableStacksKept
