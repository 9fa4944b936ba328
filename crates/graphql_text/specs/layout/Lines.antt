-- The lines of a printed text, and how far each of them is indented: told by the text alone.
use Rattle.std.specs.Prelude.{ℕ, ◌+◌, ◌-◌, ◌≡◌, Bool, true, false, if◌then◌else◌, ◌&&◌, ◌||◌, ◌==◌, List, [], ◌∷◌, ◌++◌, codes, length}
use Rattle.std.specs.List.{list_any, repeat}
use Rattle.graphql_text.specs.lexical.Characters.{is_line_terminator, is_space_or_tab, is_quote, begins_with}
use Rattle.graphql_text.specs.strings.BlockStringValue.{lines_of}

-- Where a scan of a text stands: outside strings; behind one or two quotes outside strings; in a quoted string, right
-- behind a backslash that escapes the next character or not; in a block string, behind so many quotes in a row, and
-- whether a backslash stands before these.
pub data ScanState : Type 0 where
  Outside OneQuote TwoQuotes : ScanState
  InQuoted : (escaped : Bool) → ScanState
  InBlock : (escaped : Bool) → (quotes : ℕ) → ScanState

-- The state behind one more character. In a block string `\"""` is part of it, and any other `"""` ends it.
abbrev pub next_state : ScanState → ℕ → ScanState
next_state Outside c = if is_quote c then OneQuote else Outside
next_state OneQuote c = if is_quote c then TwoQuotes else InQuoted (c == 0x5C)
next_state TwoQuotes c = if is_quote c then InBlock false 0 else Outside
next_state (InQuoted true) c = InQuoted false
next_state (InQuoted false) c = if is_quote c then Outside else InQuoted (c == 0x5C)
next_state (InBlock escaped quotes) c =
    if is_quote c
    then (if quotes == 2 then (if escaped then InBlock false 0 else Outside) else InBlock escaped (quotes + 1))
    else InBlock (c == 0x5C) 0

-- behind `""` too: what isn't a third quote stands behind an empty string
abbrev pub is_outside : ScanState → Bool
is_outside Outside = true
is_outside TwoQuotes = true
is_outside _ = false

abbrev pub opens_bracket : ℕ → Bool
opens_bracket c = list_any (λ b. c == b) (codes "([{")

abbrev pub closes_bracket : ℕ → Bool
closes_bracket c = list_any (λ b. c == b) (codes ")]}")

-- How many brackets are open behind one more character. Those in strings don't count.
abbrev pub next_depth : ScanState → ℕ → ℕ → ℕ
next_depth state depth c =
    if is_outside state
    then (if opens_bracket c then depth + 1 else if closes_bracket c then depth - 1 else depth)
    else depth

-- both behind a text
abbrev pub state_behind : ScanState → List ℕ → ScanState
state_behind state [] = state
state_behind state (c ∷ text) = state_behind (next_state state c) text

abbrev pub depth_behind : ScanState → ℕ → List ℕ → ℕ
depth_behind state depth [] = depth
depth_behind state depth (c ∷ text) = depth_behind (next_state state c) (next_depth state depth c) text

-- whether the first character of a line that is neither space nor tab closes a bracket
abbrev pub closes_at_front : List ℕ → Bool
closes_at_front [] = false
closes_at_front (c ∷ line) = if is_space_or_tab c then closes_at_front line else closes_bracket c

-- The level of a line: the starting level plus the brackets that are open where the line begins, without one that is closed
-- at the line's front.
abbrev pub line_level : ℕ → ScanState → ℕ → List ℕ → ℕ
line_level level state depth line = level + depth - (if is_outside state && closes_at_front line then 1 else 0)

-- whether a line is empty, or begins with the prefix that many times
abbrev pub is_indented : List ℕ → ℕ → List ℕ → Bool
is_indented prefix times line = (length line == 0) || begins_with (repeat times prefix) line

-- whether all lines are indented, where the first begins in the state, with that many brackets open
abbrev pub lines_are_indented : List ℕ → ℕ → ScanState → ℕ → List (List ℕ) → Bool
lines_are_indented prefix level state depth [] = true
lines_are_indented prefix level state depth (line ∷ lines) =
    is_indented prefix (line_level level state depth line) line
    && lines_are_indented prefix level (state_behind state (line ++ (0xA ∷ []))) (depth_behind state depth line) lines

-- Each line of the text that isn't empty begins with the prefix as often as its level.
abbrev pub LinesAreIndented : List ℕ → ℕ → List ℕ → Type 0
LinesAreIndented prefix level text = lines_are_indented prefix level Outside 0 (lines_of text) ≡ true

-- neither LF nor CR
abbrev pub HasNoLineBreak : List ℕ → Type 0
HasNoLineBreak text = list_any is_line_terminator text ≡ false
