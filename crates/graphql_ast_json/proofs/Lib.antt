-- Lemmas on the definitions of specs/.

-- lemmas that know nothing of JSON
pub mod general
-- of nodes of any kind
pub mod nodes
-- of the JSON of kinds
pub mod kinds
-- of the trees that types of the code stand for
pub mod trees
