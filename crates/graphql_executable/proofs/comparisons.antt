-- What the derived `==` decides: whether trees are the same.

-- of selections, fields, fragment spreads and inline fragments
pub mod SelectionEquality
-- of variable definitions, operations and fragment definitions
pub mod ExecutableEquality
