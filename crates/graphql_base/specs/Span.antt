-- What contracts see of a file's number and of a stretch of a source text.
use Rattle.std.specs.Prelude.{◌≡◌, ℕ, ◌-◌, Option}
use Rattle.std.specs.Option.{IsSomeAnd}
use Rattle.graphql_base.specs.declared.span.FileId.{FileId}
use Rattle.graphql_base.specs.declared.span.SourceSpan.{SourceSpan}

abbrev pub file_number : FileId → ℕ
file_number file = file.number

abbrev pub span_file : SourceSpan → FileId
span_file span = span.file_id

abbrev pub span_start : SourceSpan → ℕ
span_start span = span.start

abbrev pub span_end : SourceSpan → ℕ
span_end span = span.end

abbrev pub span_len : SourceSpan → ℕ
span_len span = span_end span - span_start span

-- there is a location, and its file is number 0
abbrev pub IsBuiltIn : Option SourceSpan → Type 0
IsBuiltIn location = IsSomeAnd location (λ span. file_number (span_file span) ≡ 0)
