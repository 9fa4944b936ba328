-- What worked examples are proved by.

-- texts that are read as a tree, and as none, by computing
pub mod TextReadings
