-- How a scan of lines goes on, character by character.
use Rattle.std.proofs.lemmas.Bool.{and_parts, and_from, or_right}
use Rattle.std.proofs.Common.{ℕ, zero, suc, ◌+◌, ◌-◌, ◌≤◌, ◌≡◌, Bool, true, false, cond, not, ◌&&◌, ◌==◌, List, [], ◌∷◌, ◌++◌, codes}
use Rattle.std.proofs.Common.{length, refl, ap, sym, ◌∙◌, arith, append_assoc, subst, eq-eqb}
use Rattle.std.proofs.lemmas.Bool.Decides.{nat_tests}
use Rattle.std.specs.List.{list_any, list_all, repeat, onto_first}
use Rattle.graphql_base.specs.Names.{begins_in}
use Rattle.graphql_text.specs.lexical.Characters.{is_space_or_tab, is_quote, begins_with}
use Rattle.graphql_text.specs.strings.BlockStringValue.{lines_of, is_blank}
use Rattle.graphql_text.proofs.strings.BlockFormSpells.{blank_repeat}
use Rattle.graphql_text.specs.layout.Lines.{ScanState, Outside, InBlock, is_outside, next_state, next_depth, state_behind, depth_behind}
use Rattle.graphql_text.specs.layout.Lines.{opens_bracket, closes_bracket, closes_at_front, line_level, is_indented, lines_are_indented}

-- no LF
abbrev pub has_no_lf : List ℕ → Bool
has_no_lf = list_all (λ c. not (c == 10))

-- a character that changes nothing outside strings
abbrev pub is_quiet : ℕ → Bool
is_quiet c = not (list_any (λ b. c == b) (codes "\n\r\"()[]{}"))

quiet_parts : (c : ℕ) → is_quiet c ≡ true → ((c == 10) ≡ false) × (is_quote c ≡ false) × (opens_bracket c ≡ false) × (closes_bracket c ≡ false)
quiet_parts c h = grind (arith, nat_tests)

blank_quiet : (c : ℕ) → is_space_or_tab c ≡ true → is_quiet c ≡ true
blank_quiet c h = grind (arith, nat_tests)

blank_no_backslash : (c : ℕ) → is_space_or_tab c ≡ true → (c == 92) ≡ false
blank_no_backslash c h = grind (arith, nat_tests)

closing_parts : (c : ℕ) → closes_bracket c ≡ true → ((c == 10) ≡ false) × (is_space_or_tab c ≡ false)
closing_parts c h = grind (arith, nat_tests)

-- the lines behind one that is begun
abbrev pub later_lines_are_indented : List ℕ → ℕ → ScanState → ℕ → List (List ℕ) → Bool
later_lines_are_indented prefix level state depth [] = true
later_lines_are_indented prefix level state depth (line ∷ lines) =
    lines_are_indented prefix level (state_behind state (line ++ (10 ∷ []))) (depth_behind state depth line) lines

-- Within a line: the lines that the text has behind it are indented.
abbrev pub stays_indented : List ℕ → ℕ → ScanState → ℕ → List ℕ → Bool
stays_indented prefix level state depth text = later_lines_are_indented prefix level state depth (lines_of text)

-- the first of the lines is indented
abbrev pub first_is_indented : List ℕ → ℕ → ScanState → ℕ → List (List ℕ) → Bool
first_is_indented prefix level state depth [] = true
first_is_indented prefix level state depth (line ∷ lines) = is_indented prefix (line_level level state depth line) line

-- THE FIRST LINE OF A TEXT

abbrev HasLines : List ℕ → List ℕ → List (List ℕ) → Type 0
HasLines text line lines = lines_of text ≡ line ∷ lines

onto_has : (c : ℕ) (lines : List (List ℕ)) → (line : List ℕ) × (others : List (List ℕ)) × (onto_first c lines ≡ (c ∷ line) ∷ others)
onto_has c [] = ([], [], refl)
onto_has c (line ∷ lines) = (line, lines, refl)

-- a text has a first line, which begins with what stands in front without LF
first_line : (text : List ℕ) → (line : List ℕ) × (lines : List (List ℕ)) × HasLines text line lines
first_line [] = ([], [], refl)
first_line (c ∷ text) = go (c == 10) refl
  where
    go : (b : Bool) → (c == 10) ≡ b → (line : List ℕ) × (lines : List (List ℕ)) × HasLines (c ∷ text) line lines
    go true e = ([], lines_of text, rw e refl)
    go false e = let (line, lines, is) = onto_has c (lines_of text) in (c ∷ line, lines, rw e is)

front_lines : (front text line : List ℕ) (lines : List (List ℕ)) → has_no_lf front ≡ true → HasLines text line lines →
    HasLines (front ++ text) (front ++ line) lines
front_lines [] text line lines h is = is
front_lines (c ∷ front) text line lines h is =
    let e : (c == 10) ≡ false = grind arith in
    rw e (ap (onto_first c) (front_lines front text line lines (grind arith) is))

pub closing_line : (text line : List ℕ) (lines : List (List ℕ)) → begins_in closes_bracket text ≡ true → HasLines text line lines → closes_at_front line ≡ true
closing_line [] line lines h is = cc
closing_line (c ∷ text) line lines h is =
    let (no_lf, no_blank) = closing_parts c h in
    let (others, more, onto) = onto_has c (lines_of text) in
    let same : (c ∷ others) ∷ more ≡ line ∷ lines = sym onto ∙ (rw no_lf at is) in
    let front : line ≡ c ∷ others = cc in
    rw (front, no_blank) h

blank_front : (blank line : List ℕ) → is_blank blank ≡ true → closes_at_front (blank ++ line) ≡ closes_at_front line
blank_front [] line h = refl
blank_front (c ∷ blank) line h =
    let (here, more) = and_parts (is_space_or_tab c) (is_blank blank) h in
    rw here (blank_front blank line more)

pub blank_no_lf : (blank : List ℕ) → is_blank blank ≡ true → has_no_lf blank ≡ true
blank_no_lf [] h = refl
blank_no_lf (c ∷ blank) h =
    let (here, more) = and_parts (is_space_or_tab c) (is_blank blank) h in
    let (no_lf, _, _, _) = quiet_parts c (blank_quiet c here) in
    rw no_lf (blank_no_lf blank more)

begins_more : (text front more : List ℕ) → begins_with front more ≡ true → begins_with (text ++ front) (text ++ more) ≡ true
begins_more [] front more h = h
begins_more (c ∷ text) front more h = rw (eq-eqb c c refl) (begins_more text front more h)

begins_repeated : (times more : ℕ) (prefix line : List ℕ) → times ≤ more → begins_with (repeat times prefix) (repeat more prefix ++ line) ≡ true
begins_repeated zero more prefix line h = refl
begins_repeated (suc times) zero prefix line h = absurd (omega (arith, h))
begins_repeated (suc times) (suc more) prefix line h =
    rw (append_assoc prefix (repeat more prefix) line)
    (begins_more prefix (repeat times prefix) (repeat more prefix ++ line) (begins_repeated times more prefix line (omega (arith, h))))

-- THE STEPS

module _ (prefix : List ℕ) (level : ℕ) where
  -- a character that is no LF, by what the lines are
  pub step_lines : (state : ScanState) (depth c : ℕ) (lines : List (List ℕ)) →
      later_lines_are_indented prefix level state depth (onto_first c lines)
      ≡ later_lines_are_indented prefix level (next_state state c) (next_depth state depth c) lines
  step_lines state depth c [] = refl
  step_lines state depth c (line ∷ lines) = refl

  pub step : (state : ScanState) (depth c : ℕ) (text : List ℕ) → (c == 10) ≡ false →
      stays_indented prefix level state depth (c ∷ text) ≡ stays_indented prefix level (next_state state c) (next_depth state depth c) text
  step state depth c text e = rw e (step_lines state depth c (lines_of text))

  -- the first line, and those behind it
  lines_from : (state : ScanState) (depth : ℕ) (lines : List (List ℕ)) → first_is_indented prefix level state depth lines ≡ true →
      later_lines_are_indented prefix level state depth lines ≡ true →
      lines_are_indented prefix level state depth lines ≡ true
  lines_from state depth [] h k = refl
  lines_from state depth (line ∷ lines) h k = and_from (is_indented prefix (line_level level state depth line) line) _ h k

  pub line_feed : (state : ScanState) (depth : ℕ) (text : List ℕ) → first_is_indented prefix level (next_state state 10) depth (lines_of text) ≡ true →
      stays_indented prefix level (next_state state 10) depth text ≡ true → stays_indented prefix level state depth (10 ∷ text) ≡ true
  line_feed state depth text h k = lines_from (next_state state 10) depth (lines_of text) h k

  -- whether blanks leave the state as it is
  abbrev pub rests : ScanState → Bool
  rests Outside = true
  rests (InBlock false zero) = true
  rests _ = false

  pub quiet_step : (depth c : ℕ) (text : List ℕ) → is_quiet c ≡ true →
      stays_indented prefix level Outside depth (c ∷ text) ≡ stays_indented prefix level Outside depth text
  quiet_step depth c text h =
      let (no_lf, no_quote, no_opening, no_closing) = quiet_parts c h in
      step Outside depth c text no_lf ∙ rw (no_quote, no_opening, no_closing) refl

  -- a text of such characters
  pub quiet_text : (depth : ℕ) (text rest : List ℕ) → list_all is_quiet text ≡ true →
      stays_indented prefix level Outside depth (text ++ rest) ≡ stays_indented prefix level Outside depth rest
  quiet_text depth [] rest h = refl
  quiet_text depth (c ∷ text) rest h =
      let (here, more) = and_parts (is_quiet c) (list_all is_quiet text) h in
      quiet_step depth c (text ++ rest) here ∙ quiet_text depth text rest more

  blank_text : (state : ScanState) (depth : ℕ) (blank rest : List ℕ) → rests state ≡ true → is_blank blank ≡ true →
      stays_indented prefix level state depth (blank ++ rest) ≡ stays_indented prefix level state depth rest
  blank_text state depth [] rest r h = refl
  blank_text Outside depth (c ∷ blank) rest r h =
      let (here, more) = and_parts (is_space_or_tab c) (is_blank blank) h in
      quiet_step depth c (blank ++ rest) (blank_quiet c here) ∙ blank_text Outside depth blank rest r more
  blank_text (InBlock false zero) depth (c ∷ blank) rest r h =
      let (here, more) = and_parts (is_space_or_tab c) (is_blank blank) h in
      let (no_lf, no_quote, _, _) = quiet_parts c (blank_quiet c here) in
      step (InBlock false 0) depth c (blank ++ rest) no_lf ∙ rw (no_quote, blank_no_backslash c here) (blank_text (InBlock false 0) depth blank rest r more)
  blank_text _ depth (c ∷ blank) rest r h = cc

  -- a line that begins with the prefix often enough
  pub line_begins : (state : ScanState) (depth times : ℕ) (text : List ℕ) → is_blank prefix ≡ true →
      ((line : List ℕ) (lines : List (List ℕ)) → HasLines text line lines → line_level level state depth line ≤ times) →
      first_is_indented prefix level state depth (lines_of (repeat times prefix ++ text)) ≡ true
  line_begins state depth times text blank low =
      let (line, lines, is) = first_line text in
      let front = blank_repeat times prefix blank in
      let level_is : line_level level state depth (repeat times prefix ++ line) ≡ line_level level state depth line =
      ap (λ b. level + depth - cond (is_outside state && b) 1 0) (blank_front (repeat times prefix) line front) in
      let enough : line_level level state depth (repeat times prefix ++ line) ≤ times = subst (λ n. n ≤ times) (sym level_is) (low line lines is) in
      rw (front_lines (repeat times prefix) text line lines (blank_no_lf (repeat times prefix) front) is)
      (or_right (length (repeat times prefix ++ line) == 0) _ (begins_repeated _ times prefix line enough))

  pub line_break : (state : ScanState) (depth times : ℕ) (text : List ℕ) → is_blank prefix ≡ true → rests (next_state state 10) ≡ true →
      ((line : List ℕ) (lines : List (List ℕ)) → HasLines text line lines → line_level level (next_state state 10) depth line ≤ times) →
      stays_indented prefix level (next_state state 10) depth text ≡ true → stays_indented prefix level state depth (10 ∷ (repeat times prefix ++ text)) ≡ true
  line_break state depth times text blank rest low more =
      line_feed state depth (repeat times prefix ++ text) (line_begins (next_state state 10) depth times text blank low)
      (blank_text (next_state state 10) depth (repeat times prefix) text rest (blank_repeat times prefix blank) ∙ more)

  -- a whole text, of which the first line is indented to the level
  pub whole_text : (text : List ℕ) → is_blank prefix ≡ true → stays_indented prefix level Outside 0 text ≡ true →
      lines_are_indented prefix level Outside 0 (lines_of (repeat level prefix ++ text)) ≡ true
  whole_text text blank more =
      lines_from Outside 0 (lines_of (repeat level prefix ++ text)) (line_begins Outside 0 level text blank (λ line lines is. omega arith))
      (blank_text Outside 0 (repeat level prefix) text refl (blank_repeat level prefix blank) ∙ more)
