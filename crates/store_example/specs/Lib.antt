-- A store of documents.
pub mod Stores
