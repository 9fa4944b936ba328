-- GraphQL's lexical grammar and the notation of the syntactic one; layouts; kinds of trees. What the headline says stands in
-- kinds.Printing, kinds.Reading and kinds.Kinds, over grammar.Forms, lexical.Tokens and layout.Layout.

-- the lexical grammar, section 2.1, but strings: characters, numbers, tokens
pub mod lexical
-- strings, section 2.9.4: their spellings and values, and the two forms in which they are printed
pub mod strings
-- layouts: the items that a tree is laid out as, and their text
pub mod layout
-- the notation of the syntactic grammar, section A.3
pub mod grammar
-- kinds of trees: what is printed, and what it is to be read as it
pub mod kinds
-- what kinds are put together of
pub mod parts
-- the trees that the types of the code stand for
pub mod trees
-- what the code does
pub mod code
-- examples that laws speak of
pub mod examples
-- lemmas that the laws of impls cite, no definitions
pub mod lemmas
