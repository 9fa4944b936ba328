-- Of the trees that types of the code stand for.

-- of ValueTrees and TypeTrees: the tree of a value and of a type, variant by variant
pub mod ValueAndTypeTrees
-- of ExecutableTrees: a field and an inline fragment from their parts
pub mod SelectionTrees
-- of Leaves: a description has the text of its node
pub mod DescriptionTexts
