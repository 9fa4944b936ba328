-- Flaws that are found in trees of the code.

-- what a search has found, and what it finds in a part
pub mod FoundFlaws
