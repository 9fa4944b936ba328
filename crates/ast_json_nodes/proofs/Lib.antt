-- Lemmas on the definitions of specs/.

-- lemmas that know nothing of JSON
pub mod general
-- of nodes of any kind
pub mod nodes
