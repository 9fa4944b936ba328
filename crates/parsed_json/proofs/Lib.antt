-- Lemmas on the definitions of specs/.

-- of ParsedJson: what is found in it
pub mod ParsedMembers
-- of ParsedJson: the numbers in it
pub mod ParsedNumbers
-- of ParsedJson: what is read of no text, whatever follows
pub mod Refused
-- of Depth: what has begun is the beginning of some JSON, and which texts are too deep
pub mod Begun
-- of OpenJson: what comes of the arrays and objects that are open
pub mod OpenJson
-- numbers that are written by digits alone
pub mod Digits
