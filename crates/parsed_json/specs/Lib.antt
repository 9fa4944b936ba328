-- JSON in two forms.

-- JSON as it is parsed from a text
pub mod ParsedJson
-- how deep it nests
pub mod Depth
-- JSON of which a part was read
pub mod OpenJson
-- JSON that is read, in either form
pub mod AnyJson
