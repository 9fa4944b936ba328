-- Each kind: its trees, grammar, layout, nesting, side conditions.

-- variable definitions, section 2.10
pub mod VariableDefinitions
-- names of fragments, and type conditions, section 2.8
pub mod FragmentNames
-- fragment spreads, section 2.8
pub mod FragmentSpreads
-- fields and inline fragments without their selection sets
pub mod SelectionHeads
-- selections and selection sets, sections 2.4, 2.5 and 2.8
pub mod Selections
-- fields by themselves, section 2.5
pub mod Fields
-- inline fragments by themselves, section 2.8
pub mod InlineFragments
-- operations, section 2.3
pub mod OperationDefinitions
-- fragment definitions, section 2.8
pub mod FragmentDefinitions
