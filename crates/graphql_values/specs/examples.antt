-- Examples that laws speak of.

-- trees of values, types, directives and definitions
pub mod ValueExamples
