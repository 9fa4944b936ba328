-- Lemmas on fragments that are reached.

-- of Names and Fragments: which names are in lists, and what is reached from lists of the same names
pub mod Reached
-- of Operations: each operation between the fragments that it reaches
pub mod Separated
