-- What calls answer.

-- what is looked up by name: fields and enum values
pub mod TypeSystemQueries
