-- Of the lexical grammar but strings.

-- of Characters: which classes are apart
pub mod CharacterClasses
-- of Literals and Names: the characters of names and numbers
pub mod WordCharacters
-- of Literals and Names: the words of a layout are ASCII, and so their own UTF-8
pub mod AsciiWords
-- names and numbers as a front and what follows it: the definitions that readers and tests are proved by
pub mod NameAndNumberParts
-- of Names: `is_name` decides what is a name by its parts
pub mod NameDecided
-- of Names and Literals: `is_name`, `is_int` and `is_float` hold exactly of what is a name, int or float by its parts
pub mod LiteralsDecided
-- of Literals.Checked: two checked texts that are one text are the same, and a text is checked
pub mod CheckedTexts
-- of Tokens.Lexes: texts one after another lex as their tokens one after another
pub mod LexesAppend
-- of Tokens.Lexes: what may follow a text, as a line terminator may
pub mod FollowingCharacters
