-- Examples that laws speak of.

-- trees of definitions and documents
pub mod DocumentExamples
