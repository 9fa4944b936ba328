-- Of the notation of the syntactic grammar.

-- of Forms.TokenClass: classes within another, and apart from another
pub mod TokenClasses
-- of Forms: parsers over tokens, which find what a form derives
pub mod FormParsers
