-- Nodes of AST JSON, of any kind.

-- what a node is
pub mod nodes
-- what reading makes
pub mod code
