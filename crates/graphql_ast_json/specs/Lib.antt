-- Syntax trees as JSON, in the form of graphql-js 16.

-- which JSON is of which tree, kind by kind
pub mod kinds
-- what writing and reading make
pub mod code
-- lemmas that impls cite, no definitions: the JSON of each kind is of one tree, is never null, and is a node
pub mod lemmas
