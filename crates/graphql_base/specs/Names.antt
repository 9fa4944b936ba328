-- The syntax of a name (Name, section 2.1.9), as tests of characters and texts.
-- A name is ASCII, so its bytes are its characters, and these tests serve both.
use Rattle.std.specs.Prelude.{ℕ, Bool, false, ◌==◌, ◌&&◌, ◌||◌, List, [], ◌∷◌}
use Rattle.std.specs.Char.{is_ascii_digit, is_ascii_alphabetic}
use Rattle.std.specs.List.{list_all}

-- NameStart: a letter or `_`
abbrev pub is_name_start : ℕ → Bool
is_name_start c = is_ascii_alphabetic c || (c == 0x5F)

-- NameContinue: a letter, a digit or `_`
abbrev pub is_name_continue : ℕ → Bool
is_name_continue c = is_name_start c || is_ascii_digit c

-- whether the text begins with a character of the class
abbrev pub begins_in : (ℕ → Bool) → List ℕ → Bool
begins_in class [] = false
begins_in class (c ∷ _) = class c

-- Name: a NameStart, then any number of NameContinue
abbrev pub is_name : List ℕ → Bool
is_name text = begins_in is_name_start text && list_all is_name_continue text
