-- The lexical grammar, section 2.1, but strings: characters, numbers, tokens.

-- the classes of characters that the lexical grammar names
pub mod Characters
-- the syntax of numbers, sections 2.9.1 and 2.9.2, as tests of texts; texts that pass a test
pub mod Literals
-- the tokens of a text, and which text has which tokens
pub mod Tokens
