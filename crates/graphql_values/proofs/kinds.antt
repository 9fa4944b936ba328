-- Of kinds.

-- of Wrappings: what a wrapping tells of a type, and how assignability compares two
pub mod WrappingLaws
