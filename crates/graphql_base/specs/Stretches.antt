-- The span of a file from one offset to another, in bytes, where there is one.
use Rattle.std.specs.Prelude.{ℕ, ◌+◌, ◌≤◌, List, length, Option, Some, None}
use native.Mathlib.Decide.{dec_le}
use Rattle.graphql_base.specs.declared.span.FileId.{FileId}
use Rattle.graphql_base.specs.declared.span.SourceSpan.{SourceSpan}

abbrev pub ordered_stretch : FileId → (start end : ℕ) → Dec (start ≤ end) → Option SourceSpan
ordered_stretch file start end (yes ordered) = Some (record { file_id = file; start = start; end = end; ordered = ordered })
ordered_stretch file start end (no _) = None

-- none where the start is above the end
abbrev pub stretch : FileId → ℕ → ℕ → Option SourceSpan
stretch file start end = ordered_stretch file start end (dec_le start end)

-- from an offset on, as long as a text
abbrev pub text_stretch : FileId → ℕ → List ℕ → Option SourceSpan
text_stretch file start text = stretch file start (start + length text)
