-- The notation of the syntactic grammar, section A.3.

-- forms: relations between the tokens from a place on, a tree, and the tokens that follow it
pub mod Forms
-- what it is for a form to be read in one way
pub mod OneReading
