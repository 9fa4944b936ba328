-- Lemmas that impls and laws cite, no definitions: definitions and documents as parts, and their laws.

-- of Definitions
pub mod Definitions
-- of Documents
pub mod Documents
