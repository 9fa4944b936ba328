-- Each kind: its trees, grammar, layout, nesting, side conditions.

-- values, section 2.9, with variables, section 2.10
pub mod Values
-- type references, section 2.11
pub mod TypeReferences
-- wrapping types, section 3.4.1: a type as the name that is wrapped, and what is non-null around it
pub mod Wrappings
-- arguments, section 2.6
pub mod Arguments
-- directives, section 2.12
pub mod Directives
-- default values, section 2.10
pub mod DefaultValues
-- definitions of input values, section 3.6.1
pub mod InputValueDefinitions
-- arguments definitions of fields and directives, section 3.6.1
pub mod ArgumentsDefinitions
-- operation types, section 2.3
pub mod OperationTypes
-- directive locations, section 3.13
pub mod DirectiveLocations
-- directive definitions, section 3.13
pub mod DirectiveDefinitions
