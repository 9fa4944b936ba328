-- Lemmas on flaws that are found.

-- of FoundFlaws: what is found of parts one after another
pub mod PartsFound
