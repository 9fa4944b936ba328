-- The words that the program is handed.
use Rattle.std.specs.Prelude.{ℕ, List, [], if◌then◌else◌}
use Rattle.std.specs.Str.{is_utf8}

-- the text of a word of these bytes: the empty text where they are not UTF-8
abbrev pub word_text : List ℕ → List ℕ
word_text bytes = if is_utf8 bytes then bytes else []
