-- Of what writers do.

-- of Writing: how what writers did with items follows on
pub mod WritingSteps
-- of Writing.fixed_text: items whose text is the same at every place
pub mod FixedText
-- of Groups: a comma group and a curly group, opened
pub mod GroupsOpened
-- of Groups: comma groups, written item by item
pub mod CommaGroupSteps
-- of Groups: the last comma of a group, written at the level below
pub mod CommaGroupEnd
-- of Groups: a comma and a mark as one piece
pub mod CommaAndMark
-- of Groups: comma groups on one line, written item by item
pub mod CommaGroupOnOneLine
-- of Groups and Members: curly groups, written item by item
pub mod CurlyGroupSteps
-- of JoinedNames: written name by name
pub mod JoinedNamesSteps
-- of Layout.break_text: breaks under two spaces are cut from one text
pub mod TwoSpaceBreaks
-- of Buffer: a piece that is copied with bytes behind it
pub mod PaddedPieces
-- of Stack: a stack that is emptied again and again
pub mod KeptStacks
-- of PendingStack: how the writing of the entries goes on
pub mod PendingStackSteps
-- of Sinks: two puts one after another
pub mod SinkTwoPuts
