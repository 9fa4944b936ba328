-- Each kind: its trees, grammar, layout, nesting, side conditions.

-- what stands behind a word of the grammar
pub mod Keywords
-- schemas, section 3.3
pub mod Schemas
-- scalar types, section 3.5
pub mod ScalarTypes
-- definitions of fields, section 3.6
pub mod FieldDefinitions
-- what object types and interface types share
pub mod ImplementingTypes
-- object types, section 3.6
pub mod ObjectTypes
-- interface types, section 3.7
pub mod InterfaceTypes
-- union types, section 3.8
pub mod UnionTypes
-- definitions of enum values, section 3.9
pub mod EnumValueDefinitions
-- what enum types and input object types share
pub mod BracedTypes
-- enum types, section 3.9
pub mod EnumTypes
-- input object types, section 3.10
pub mod InputObjectTypes
