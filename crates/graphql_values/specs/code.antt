-- What calls answer and lend, and what writers have still to write.

-- the bytes of a numeral, in place or not
pub mod Numerals
-- why a text is made no int and no float
pub mod LiteralErrors
-- what a value holds, by its variant; the fields that it is made of
pub mod ValueQueries
-- what is looked up by name: arguments, directives, definitions
pub mod Queries
-- the value that an argument of a directive has, by its definition too
pub mod ArgumentValues
-- what a directive and its like are once a loan of what they hold has ended
pub mod Loans
-- what is still to be written of a value: the entries of its stack
pub mod ValueWalk
-- what is still to be written of a type: the ends of its open lists
pub mod TypeEnds
-- the stacks that definitions are written with
pub mod Stacks
