-- Lemmas on the definitions of specs/, in folders of the same names.

-- lemmas that know nothing of GraphQL
pub mod general
-- of the lexical grammar but strings
pub mod lexical
-- a reader of tokens that computes, and that it finds what Tokens.Lexes says
pub mod reader
-- of strings, and of how the code writes them
pub mod strings
-- of layouts and their text
pub mod layout
-- of the notation of the syntactic grammar
pub mod grammar
-- of the laws of kinds
pub mod kinds
-- the facts of kinds, part by part
pub mod parts
-- of what writers do
pub mod code
-- what worked examples are proved by
pub mod examples
