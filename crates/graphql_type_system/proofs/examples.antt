-- What worked examples are proved by.

-- what kinds are printed as and what their readers find, by computing
pub mod TypeSystemReadings
