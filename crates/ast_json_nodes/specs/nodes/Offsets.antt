-- What the offsets of locations count, and which byte of a text they mean.
use Rattle.std.specs.Prelude.{◌≡◌, ℕ, List, chars, if◌then◌else◌, nat_lt, sum_by, take}
use Rattle.std.specs.Char.{len_utf8}
use Rattle.graphql_base.specs.declared.span.SourceSpan.{SourceSpan}
use Rattle.graphql_base.specs.Span.{span_end, span_file, span_start}
use Rattle.ast_json_nodes.specs.declared.offsets.Offsets.TheVariants.{Bytes, CodePoints, Utf16}
use Rattle.ast_json_nodes.specs.declared.offsets.Offsets.{Offsets}

-- how many units a character has: in UTF-16 two where it stands behind U+FFFF
abbrev pub units : Offsets → ℕ → ℕ
units Utf16 character = if nat_lt character 0x1_0000 then 1 else 2
units CodePoints character = 1
units Bytes character = len_utf8 character

-- how many units the first characters of a text have, so many as there are of them
abbrev pub units_before : Offsets → List ℕ → ℕ → ℕ
units_before offsets text count = sum_by (units offsets) (take count (chars text))

-- an offset, and the byte that it means: the same characters stand before both
abbrev pub IsByteOf : Offsets → List ℕ → ℕ → ℕ → Type 0
IsByteOf offsets text offset byte = (count : ℕ) × (units_before offsets text count ≡ offset) × (units_before Bytes text count ≡ byte)

-- the same of both ends of a stretch
abbrev pub IsByteSpanOf : Offsets → List ℕ → SourceSpan → SourceSpan → Type 0
IsByteSpanOf offsets text span bytes =
    (span_file bytes ≡ span_file span)
    × IsByteOf offsets text (span_start span) (span_start bytes)
    × IsByteOf offsets text (span_end span) (span_end bytes)

-- the units and the bytes of the first characters of a text: no others have as many units as the offset tells
abbrev pub IsFront : Offsets → List ℕ → ℕ → ℕ → ℕ → Type 0
IsFront offsets text offset total bytes =
    (count : ℕ) × (units_before offsets text count ≡ total) × (units_before Bytes text count ≡ bytes)
    × ((other : ℕ) → units_before offsets text other ≡ offset → take other (chars text) ≡ take count (chars text))
