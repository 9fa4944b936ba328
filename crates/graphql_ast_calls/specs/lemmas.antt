-- Lemmas that impls cite, no definitions.

-- how what went to a buffer follows on
pub mod Buffers
