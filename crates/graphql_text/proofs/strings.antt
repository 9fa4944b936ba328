-- Of strings, and of how the code writes them.

-- of QuotedForm: the quoted form spells its value
pub mod QuotedFormSpells
-- of BlockForm: the block form, under a prefix of spaces and tabs, spells its value
pub mod BlockFormSpells
-- of BlockStringValue: the value of the raw value of a block form
pub mod BlockFormValue
-- of BlockForm.escape_quotes: what it does, step by step
pub mod EscapeQuotesSteps
-- of BlockForm.escape_quotes: the code's scan of a text for three quotes
pub mod ThreeQuotesScan
-- of QuotedForm: a character that has no escape stands for itself
pub mod UnescapedCharacter
-- of BlockForm: a text of which nothing is escaped is one line, and stands in a block string as it is
pub mod UnescapedLine
-- of QuotedForm: a text that is written in runs between its escapes
pub mod EscapeRuns
-- of BlockForm: the first line of a text, the last one and those that are not indented, told byte by byte
pub mod LinesByBytes
-- of BlockForm: the lines of a text, as a loop goes through them
pub mod LinesOneByOne
-- of Layout.string_text: which form the text of a string has
pub mod StringTextForm
-- of BlockForm and QuotedForm: they mean the same of characters and of their bytes in UTF-8
pub mod StringsInUtf8
