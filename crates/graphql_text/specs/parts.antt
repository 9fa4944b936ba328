-- What kinds are put together of.

-- parts that are there or not
pub mod Optional
-- descriptions, section 3.2, and what may have one
pub mod Descriptions
-- extensions, section 3.1: `extend` and a body that adds something
pub mod Extensions
-- parts between braces, as the fields of a type are
pub mod Members
-- parts in parentheses, as arguments are
pub mod Parentheses
-- names that stand joined by a punctuator, as directive locations do
pub mod JoinedNames
-- the greatest of the numbers that some parts have
pub mod Greatest
-- what holds of the tokens of a part as it is printed
pub mod PrintedParts
