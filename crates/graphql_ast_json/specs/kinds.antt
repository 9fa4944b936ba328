-- Which JSON is of which tree, kind by kind.

-- of values
pub mod ValueJson
-- of type references
pub mod TypeJson
-- of arguments, directives and lists of directives
pub mod DirectiveJson
-- of definitions of input values and of directives
pub mod DefinitionJson
-- of definitions and extensions of the type system
pub mod TypeSystemJson
-- of variable definitions, selections, operations and fragment definitions
pub mod ExecutableJson
-- of definitions and documents
pub mod DocumentJson
