-- Lemmas that know nothing of GraphQL.

-- the first index at which a test passes, or the length
pub mod FirstPlace
-- what stands at the index that `position` answers, and whether `find` finds anything
pub mod PositionAndFind
-- how `any`, `find` and `filter` of a list agree
pub mod LookUpsAgree
-- facts about results
pub mod ResultFacts
