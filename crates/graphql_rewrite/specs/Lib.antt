-- Trees that are rewritten.

-- what a call comes to that makes another tree, or nothing
pub mod Outcomes
-- what no rewriting changes
pub mod Kept
-- what is made of each part of a tree
pub mod Rewritings
-- the tree that is made of a tree, kind by kind
pub mod kinds
-- the sources of documents one behind another
pub mod Concatenations
-- the order of definitions
pub mod DefinitionOrder
-- fields that get another name, and sets that get one field more
pub mod FieldRewritings
-- directives that are left out
pub mod DirectiveRewritings
-- variables that values take the place of
pub mod VariableRewritings
-- rewritings that keep the side conditions of each part
pub mod SideConditions
