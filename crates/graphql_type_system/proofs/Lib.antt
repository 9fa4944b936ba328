-- Lemmas on the definitions of specs/.

-- what the derived `==` of definitions and extensions decides: whether their trees are the same
pub mod TypeSystemEquality
-- of Members: what is written of members raises the level as often as it lowers it
pub mod MembersBalanced
-- of Stacks.CanWriteDefinition: where no part has a type, no room is asked for on the stack of types
pub mod CanWriteWithoutTypes
-- what worked examples are proved by
pub mod examples
