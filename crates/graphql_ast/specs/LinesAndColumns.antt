-- Positions in source texts: the line and the column, as messages name them.
use Rattle.std.specs.Prelude.{◌≡◌, ℕ, ◌+◌, ◌==◌, not, List, Option, Some, None, IfSome, count_by, chars, take, string_bytes}
use Rattle.std.specs.List.{suffix_len}
use Rattle.std.specs.Map.{lookup}
use Rattle.std.specs.Option.{option_map}
use Rattle.std.specs.Str.{IsCharBoundary}
use Rattle.graphql_base.specs.declared.span.FileId.{FileId}
use Rattle.graphql_base.specs.declared.span.SourceSpan.{SourceSpan}
use Rattle.graphql_base.specs.Span.{file_number, span_file, span_start}
use Rattle.graphql_text.specs.strings.BlockStringValue.{with_lf}
use Rattle.graphql_text.specs.declared.ill_formed.IllFormed.{IllFormed}
use Rattle.graphql_ast.specs.declared.document.placed_flaw.PlacedFlaw.{PlacedFlaw}
use Rattle.graphql_ast.specs.declared.document.placed_flaw.SourcePosition.{SourcePosition}
use Rattle.graphql_ast.specs.declared.document.SourceFile.{SourceFile}
use Rattle.graphql_ast.specs.declared.document.lines_and_columns.LineColumn.{LineColumn}

-- the position behind a text: one line more than it has line terminators, and one column more than characters stand behind the last of them
abbrev pub position_behind : List ℕ → LineColumn
position_behind text =
    let lines = with_lf text in
    record { line = 1 + count_by (λ c. c == 0xA) lines; column = 1 + suffix_len (λ c. not (c == 0xA)) lines }

-- what is answered for an offset: the position behind the text up to there, exactly where that is the text's end or a character's beginning
abbrev pub IsPositionAt : List ℕ → ℕ → Option LineColumn → Type 0
IsPositionAt bytes offset (Some position) = IsCharBoundary bytes offset × (position ≡ position_behind (chars (take offset bytes)))
IsPositionAt bytes offset None = ¬ IsCharBoundary bytes offset

-- the source file of an id
abbrev pub source_file_of : FileId → List (FileId × SourceFile) → Option SourceFile
source_file_of id = lookup (λ key. file_number id == file_number key)

-- what is answered for a span: the position where it begins in the source file that it is of, if there is that one
abbrev pub IsStartIn : Option SourceFile → SourceSpan → Option LineColumn → Type 0
IsStartIn (Some file) span position = IsPositionAt (string_bytes file.text) (span_start span) position
IsStartIn None span position = position ≡ None

abbrev pub IsStartPosition : List (FileId × SourceFile) → SourceSpan → Option LineColumn → Type 0
IsStartPosition files span position = IsStartIn (source_file_of (span_file span) files) span position

-- the position in a source text, without its path
abbrev pub line_column_of : SourcePosition → LineColumn
line_column_of position = position.position

-- the path is that of the source file, if there is that one
abbrev pub IsPathIn : Option SourceFile → SourcePosition → Type 0
IsPathIn file position = IfSome file (λ found. position.path.now ≡ string_bytes found.path)

-- what is answered for a span with the path of its source file
abbrev pub IsSourcePosition : List (FileId × SourceFile) → SourceSpan → Option SourcePosition → Type 0
IsSourcePosition files span position =
    IsStartPosition files span (option_map line_column_of position) × IfSome position (IsPathIn (source_file_of (span_file span) files))

-- what is answered for a location: none where there is no location
abbrev pub IsPositionOf : List (FileId × SourceFile) → Option SourceSpan → Option SourcePosition → Type 0
IsPositionOf files (Some span) position = IsSourcePosition files span position
IsPositionOf files None position = position ≡ None

-- the flaw, wherever it stands
abbrev pub found_of : PlacedFlaw → IllFormed
found_of flaw = flaw.found
