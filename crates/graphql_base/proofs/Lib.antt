-- Lemmas on names, nodes and spans.

-- what `==` decides of spans, locations and errors of names
pub mod SpanEquality
-- of Stretches: a span is the stretch between its offsets, and `SourceSpan::new` answers the stretch that it was asked for
pub mod SpanStretches
-- how a struct without data and a pair are made of what their parts own
pub mod OwnedParts
