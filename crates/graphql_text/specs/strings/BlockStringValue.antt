-- BlockStringValue (String Value, section 2.9.4): what the raw value of a block string stands for.
use Rattle.std.specs.Prelude.{ℕ, min, Bool, not, ◌==◌, if◌then◌else◌, List, [], ◌∷◌, ◌++◌, codes, map, filter, fold, drop}
use Rattle.std.specs.List.{list_all, slice_split, join_with_byte, prefix_len}
use Rattle.graphql_text.specs.lexical.Characters.{is_space_or_tab, begins_with}

-- each line terminator as LF: a CR before a LF is left off, and any other CR is a LF
abbrev pub with_lf : List ℕ → List ℕ
with_lf [] = []
with_lf (c ∷ text) =
    (if c == 0xD then (if begins_with (codes "\n") text then [] else codes "\n") else c ∷ []) ++ with_lf text

-- the lines of a text, split at each LF: one more than there are of these
abbrev pub lines_of : List ℕ → List (List ℕ)
lines_of = slice_split (λ c. c == 0xA)

-- whether a line is made of white space only; an empty one is
abbrev pub is_blank : List ℕ → Bool
is_blank = list_all is_space_or_tab

-- the least of the numbers, 0 where there is none
abbrev pub least : List ℕ → ℕ
least [] = 0
least (n ∷ ns) = fold min n ns

-- the least indentation of the lines that hold something other than white space
abbrev pub common_indent : List (List ℕ) → ℕ
common_indent lines = least (map (prefix_len is_space_or_tab) (filter (λ line. not (is_blank line)) lines))

-- the common indentation of the lines after the first, off each of these
abbrev pub unindented : List (List ℕ) → List (List ℕ)
unindented [] = []
unindented (first ∷ lines) = first ∷ map (drop (common_indent lines)) lines

-- without the blank lines at the front, and at the end
abbrev pub without_first_blank : List (List ℕ) → List (List ℕ)
without_first_blank [] = []
without_first_blank (line ∷ lines) = if is_blank line then without_first_blank lines else line ∷ lines

abbrev pub without_last_blank : List (List ℕ) → List (List ℕ)
without_last_blank [] = []
without_last_blank (line ∷ lines) = if list_all is_blank (line ∷ lines) then [] else line ∷ without_last_blank lines

-- BlockStringValue
abbrev pub block_string_value : List ℕ → List ℕ
block_string_value raw =
    let lines = unindented (lines_of (with_lf raw)) in
    join_with_byte 0xA (without_last_blank (without_first_blank lines))
