-- Syntax trees as the text of their AST JSON.

-- members of nodes that are written
pub mod Members
-- what the text of a tree is
pub mod AstJsonTexts
