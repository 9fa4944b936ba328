-- JSON as text.

-- what is written of JSON
pub mod Texts
