-- Lemmas that impls cite, no definitions: the JSON of each kind is of one tree, is never null, and is a node.

-- of JSON and nodes of any kind, of names and of strings
pub mod Leaves
-- of kinds.ValueJson
pub mod ValueNodes
-- of kinds.TypeJson
pub mod TypeNodes
-- of kinds.DirectiveJson
pub mod DirectiveNodes
-- of kinds.DefinitionJson
pub mod DefinitionNodes
-- of kinds.TypeSystemJson
pub mod TypeSystemNodes
-- of kinds.ExecutableJson
pub mod ExecutableNodes
-- of kinds.DocumentJson
pub mod DocumentNodes
