-- What the hash of a document is of.
pub mod Lines
