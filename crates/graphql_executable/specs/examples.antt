-- Examples that laws speak of.

-- trees of operations, fragments and selections
pub mod ExecutableExamples
