-- The type system: definitions and extensions.

-- each kind: its trees, grammar, layout, nesting, side conditions
pub mod kinds
-- the trees that the types of the code stand for
pub mod trees
-- what calls answer
pub mod code
-- examples that laws speak of
pub mod examples
-- lemmas that impls and the crates above cite, no definitions: each body and kind as a part, and its laws
pub mod lemmas
