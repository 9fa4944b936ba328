-- Lemmas on the definitions of specs/.

-- what the derived `==` of definitions and documents decides: whether their trees are the same
pub mod AstEquality
-- of Documents: the layout of documents, and the room that it needs on the stacks
pub mod DocumentShapes
-- of Definitions: what is asked of a definition under each variant; what is no operation looks alike at the front of a print and behind something else
pub mod DefinitionFacts
-- lists that are filtered hold no more than before
pub mod FilteredLengths
-- of LinesAndColumns: what one character more changes
pub mod LinesAndColumnsSteps
-- of LinesAndColumns: line terminators, and the characters of the last line, counted by bytes
pub mod LineEnds
-- what worked examples are proved by
pub mod examples
