-- Lemmas that know nothing of JSON.

-- an error that is passed up by `?`
pub mod PassedErrors
-- the first characters of a text
pub mod Excerpts
