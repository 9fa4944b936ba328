-- The quoted form that a printer gives a string: one of its spellings (String Value, section 2.9.4).
use Rattle.std.specs.Prelude.{ℕ, ◌+◌, ◌/◌, ◌%◌, if◌then◌else◌, not, ◌&&◌, ◌||◌, ◌==◌, nat_lt, List, [], ◌∷◌, ◌++◌, codes, Option, Some, None, flat_map}

-- the letter that is written after a backslash in place of c
abbrev pub escape_letter : ℕ → Option ℕ
escape_letter c =
    if (c == 0x22) || (c == 0x5C) then Some c
    else if c == 0x8 then Some 0x62
    else if c == 0xA then Some 0x6E
    else if c == 0xC then Some 0x66
    else if c == 0xD then Some 0x72
    else None

-- an upper-case hexadecimal digit
abbrev pub upper_hex_digit : ℕ → ℕ
upper_hex_digit d = if nat_lt d 10 then 0x30 + d else 0x37 + d

-- a backslash and the letter; where there is none, `\u` and four digits for a character below U+0020 but the tab, and
-- any other character as it is
abbrev pub written : ℕ → Option ℕ → List ℕ
written c (Some letter) = codes "\\" ++ (letter ∷ [])
written c None =
    if nat_lt c 0x20 && not (c == 0x9)
    then codes "\\u00" ++ (upper_hex_digit (c / 16) ∷ upper_hex_digit (c % 16) ∷ [])
    else c ∷ []

abbrev pub quoted_character : ℕ → List ℕ
quoted_character c = written c (escape_letter c)

abbrev pub quoted_form : List ℕ → List ℕ
quoted_form value = codes "\"" ++ (flat_map quoted_character value ++ codes "\"")
