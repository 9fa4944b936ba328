-- Lemmas on the definitions of specs/.

-- what the derived `==` decides: whether trees are the same
pub mod comparisons
-- of the layouts of kinds, as writers go through them
pub mod layout
-- of what writers do
pub mod code
-- what worked examples are proved by
pub mod examples
