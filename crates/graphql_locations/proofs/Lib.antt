-- Lemmas on source locations that are taken out.

-- of Leaves: texts that are the same, and parts without locations side by side
pub mod PartsStripped
-- of kinds.Values: values of the code
pub mod ValuesStripped
-- of kinds.Executable: selection sets of the code
pub mod SelectionsStripped
