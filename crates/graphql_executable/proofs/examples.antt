-- What worked examples are proved by.

-- what parts are printed as and what their readers find, by computing
pub mod ExecutableReadings
