-- Operations, fragments and selections.

-- each kind: its trees, grammar, layout, nesting, side conditions
pub mod kinds
-- the trees that the types of the code stand for
pub mod trees
-- what calls answer, and what writers have still to write
pub mod code
-- examples that laws speak of
pub mod examples
-- lemmas that impls and the crates above cite, no definitions: each part and kind, and its laws
pub mod lemmas
