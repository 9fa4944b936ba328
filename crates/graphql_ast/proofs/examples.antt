-- What worked examples are proved by.

-- what definitions and documents are printed as and what their readers find, by computing
pub mod DocumentReadings
