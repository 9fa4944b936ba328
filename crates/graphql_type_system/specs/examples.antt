-- Examples that laws speak of.

-- trees of definitions and extensions
pub mod TypeSystemExamples
