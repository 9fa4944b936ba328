-- Of what the code does.

-- of Numerals: an integer literal is a numeral after at most one sign, as is the decimal text of a number
pub mod DecimalNumerals
-- of ValueWalk: what a value's writing goes on by, and how much room an entry needs
pub mod ValueWalkSteps
-- of Stacks: the stacks of definitions are emptied again and again
pub mod DefinitionStacksKept
