-- Lemmas on the definitions of specs/, and on lists.

-- lemmas that know nothing of GraphQL
pub mod general
-- what the derived `==` decides: whether trees are the same
pub mod comparisons
-- of the trees that types of the code stand for
pub mod trees
-- of kinds
pub mod kinds
-- of the layouts of kinds, as writers go through them
pub mod layout
-- of what the code does
pub mod code
-- what worked examples are proved by
pub mod examples
