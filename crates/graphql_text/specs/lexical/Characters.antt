-- The classes of characters that the lexical grammar names. A character is its Unicode scalar value, and a text is a
-- list of characters.
use Rattle.std.specs.Prelude.{◌≡◌, ℕ, ◌+◌, ◌*◌, Bool, true, false, if◌then◌else◌, ◌||◌, ◌&&◌, not, ◌==◌, List, [], ◌∷◌, codes, Option, Some, None}
use Rattle.std.specs.Char.{digit_value}
use Rattle.std.specs.Int.{is_in_range}
use Rattle.std.specs.Str.{all_scalars}
use Rattle.graphql_base.specs.Names.{is_name_continue}

-- Source text (section 2.1): a list of SourceCharacters. Here every Unicode scalar value is one.
abbrev pub IsSourceText : List ℕ → Type 0
IsSourceText text = all_scalars text ≡ true

-- the characters of a LineTerminator (section 2.1.3): LF and CR
abbrev pub is_line_terminator : ℕ → Bool
is_line_terminator c = (c == 0xA) || (c == 0xD)

-- WhiteSpace (section 2.1.2)
abbrev pub is_space_or_tab : ℕ → Bool
is_space_or_tab c = (c == 0x20) || (c == 0x9)

-- the characters of Ignored tokens (section 2.1.7) but comments: UnicodeBOM, WhiteSpace, those of a LineTerminator, Comma
abbrev pub is_ignored : ℕ → Bool
is_ignored c = (is_space_or_tab c || is_line_terminator c) || ((c == 0x2C) || (c == 0xFEFF))

-- what follows no number directly (sections 2.9.1 and 2.9.2): a Digit, `.` or a NameStart
abbrev pub follows_no_number : ℕ → Bool
follows_no_number c = is_name_continue c || (c == 0x2E)

abbrev pub is_quote : ℕ → Bool
is_quote c = c == 0x22

-- the quotes around a block string (section 2.9.4), and as they are escaped within one
abbrev pub quotes : List ℕ
quotes = codes "\"\"\""

abbrev pub escaped_quotes : List ℕ
escaped_quotes = codes "\\\"\"\""

-- a character that stands for itself in a quoted string (StringCharacter, section 2.9.4): any but `"`, `\` and those of a LineTerminator
abbrev pub is_plain_string_character : ℕ → Bool
is_plain_string_character c = not ((is_quote c || (c == 0x5C)) || is_line_terminator c)

-- EscapedCharacter, section 2.9.4: what the character after a backslash stands for
abbrev pub escaped_character_value : ℕ → Option ℕ
escaped_character_value c =
    if (is_quote c || (c == 0x5C)) || (c == 0x2F) then Some c
    else if c == 0x62 then Some 0x8
    else if c == 0x66 then Some 0xC
    else if c == 0x6E then Some 0xA
    else if c == 0x72 then Some 0xD
    else if c == 0x74 then Some 0x9
    else None

-- EscapedUnicode, section 2.9.4: the number that four hexadecimal digits write
abbrev pub unicode_escape_value : ℕ → ℕ → ℕ → ℕ → ℕ
unicode_escape_value a b c d =
    ((digit_value a * 16 + digit_value b) * 16 + digit_value c) * 16 + digit_value d

abbrev pub is_surrogate : ℕ → Bool
is_surrogate c = is_in_range 0xD800 0xDFFF c

-- whether the text begins with the other one
abbrev pub begins_with : List ℕ → List ℕ → Bool
begins_with [] text = true
begins_with (p ∷ ps) [] = false
begins_with (p ∷ ps) (c ∷ cs) = (c == p) && begins_with ps cs
