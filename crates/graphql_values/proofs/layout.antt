-- Of the layouts of kinds, as writers go through them.

-- of Values: the layout and nesting of a list and an object over the slice of its members
pub mod ValueShapes
-- of TypeReferences: the trees and layouts of types, level by level
pub mod TypeShapes
-- of Arguments and Directives: the level is raised as often as it is lowered
pub mod DirectiveShapes
-- of DirectiveLocations: the layout of locations, piece by piece
pub mod LocationShapes
-- of ArgumentsDefinitions: parameters in parentheses, piece by piece
pub mod ParameterGroups
