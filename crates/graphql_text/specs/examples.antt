-- Examples that laws speak of.

-- items that laws speak of
pub mod LayoutExamples
-- tables of texts that are read, and of texts that are not
pub mod Tables
