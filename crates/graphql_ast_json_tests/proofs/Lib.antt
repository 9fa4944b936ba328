-- Lemmas of the search for a flaw as it was.

pub mod JsonDepths
