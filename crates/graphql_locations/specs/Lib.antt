-- Source locations in trees of the code.

-- those of names, texts and nodes, and of parts that are optional or lists
pub mod Leaves
-- those of each kind
pub mod kinds
