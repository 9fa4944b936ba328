-- Operations and the fragments that they reach.

-- the fragments that are spread, and those that are reached
pub mod Fragments
-- lists of the same names
pub mod Names
-- an operation with the fragments that it reaches
pub mod Operations
