-- Lemmas that the laws of impls cite, no definitions.

-- of code.Sinks: how what was done to a sink follows on
pub mod Sinks
-- of code.Targets: how what was written to a text and to a formatter follows on
pub mod Targets
