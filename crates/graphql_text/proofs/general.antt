-- Lemmas that know nothing of GraphQL.

-- tests made of tests by `not`, `&&`, `||` and `list_all`
pub mod BooleanTests
-- a test of the members of a list that goes piece by piece
pub mod PiecewiseTests
-- what is left of a slice, for a loop over it
pub mod SliceRest
