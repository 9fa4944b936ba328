-- Of LinesAndColumns: what one character more changes.
use Rattle.std.proofs.Common.{◌≡◌, ℕ, ◌+◌, ◌≤◌, ◌==◌, Bool, true, false, not, ◌&&◌, ◌||◌, cond, if◌then◌else◌, List, [], ◌∷◌, ◌++◌, codes}
use Rattle.std.proofs.Common.{refl, sym, ap, ap₂, ◌∙◌, arith, append_assoc, append-nil, true≢false, count_by}
use Rattle.std.specs.List.{suffix_len, prefix_len}
use Rattle.std.proofs.lemmas.Bool.{eqb-true}
use Rattle.std.proofs.lemmas.List.{reverse-append}
use Rattle.std.proofs.lemmas.List.Sums.{sum_by-append}
use Rattle.graphql_text.specs.strings.BlockStringValue.{with_lf}
use Rattle.graphql_text.specs.lexical.Characters.{begins_with}
use Rattle.graphql_ast.specs.LinesAndColumns.{position_behind}
use Rattle.graphql_ast.specs.declared.document.lines_and_columns.LineColumn.{LineColumn}

-- whether a text ends with a CR, where `before` says it of nothing
abbrev pub ends_from : Bool → List ℕ → Bool
ends_from before [] = before
ends_from before (c ∷ text) = ends_from (c == 0xD) text

abbrev pub ends_with_return : List ℕ → Bool
ends_with_return text = ends_from false text

pub ends_more : (before : Bool) (text : List ℕ) (c : ℕ) → ends_from before (text ++ c ∷ []) ≡ (c == 0xD)
ends_more before [] c = refl
ends_more before (x ∷ text) c = ends_more (x == 0xD) text c

is_lf : (c : ℕ) → (c == 0xA) ≡ true → (c ≡ 0xA) × ((c == 0xD) ≡ false)
is_lf c e = let same = eqb-true c 0xA e in (same, rw same refl)

-- what one character more adds to a text with its line terminators as LF
abbrev one_more : Bool → ℕ → List ℕ
one_more behind_return c = if behind_return && (c == 0xA) then [] else (if c == 0xD then 0xA else c) ∷ []

alone : (c : ℕ) (is_cr : Bool) → (if is_cr then 0xA ∷ [] else c ∷ []) ++ [] ≡ (if is_cr then 0xA else c) ∷ []
alone c true = refl
alone c false = refl

pair : (x c : ℕ) (after_cr is_lf is_cr : Bool) → (is_lf ≡ true → (c ≡ 0xA) × (is_cr ≡ false)) →
    (if after_cr then (if is_lf && true then [] else 0xA ∷ []) else x ∷ []) ++ ((if is_cr then 0xA ∷ [] else c ∷ []) ++ [])
    ≡ ((if after_cr then 0xA ∷ [] else x ∷ []) ++ []) ++ (if after_cr && is_lf then [] else (if is_cr then 0xA else c) ∷ [])
pair x c true true true h = absurd (true≢false (h refl).1)
pair x c true true false h = ap (λ d. d ∷ []) (h refl).0
pair x c true false true h = refl
pair x c true false false h = refl
pair x c false is_lf true h = refl
pair x c false is_lf false h = refl

with_lf_more : (text : List ℕ) (c : ℕ) → with_lf (text ++ c ∷ []) ≡ with_lf text ++ one_more (ends_with_return text) c
with_lf_more [] c = alone c (c == 0xD)
with_lf_more (x ∷ []) c = pair x c (x == 0xD) (c == 0xA) (c == 0xD) (is_lf c)
with_lf_more (x ∷ y ∷ text) c =
    let first : List ℕ = if x == 0xD then (if begins_with (codes "\n") (y ∷ text) then [] else codes "\n") else x ∷ [] in
    ap (λ rest. first ++ rest) (with_lf_more (y ∷ text) c)
    ∙ sym (append_assoc first (with_lf (y ∷ text)) (one_more (ends_with_return (y ∷ text)) c))

-- POSITIONS

-- whether a line ends with this character, where a CR may stand before it: a LF ends none then
abbrev pub ends_line : Bool → ℕ → Bool
ends_line behind_return c = (c == 0xD) || ((c == 0xA) && not behind_return)

-- the position behind one character more, where a CR may stand before it
abbrev pub next_position : LineColumn → Bool → ℕ → LineColumn
next_position position behind_return c =
    if ends_line behind_return c then record { line = position.line + 1; column = 1 }
    else if c == 0xA then position
    else record { line = position.line; column = position.column + 1 }

abbrev pub position_in : List ℕ → LineColumn
position_in lines = record { line = 1 + count_by (λ c. c == 0xA) lines; column = 1 + suffix_len (λ c. not (c == 0xA)) lines }

abbrev pub line_begun : LineColumn → LineColumn
line_begun position = record { line = position.line + 1; column = 1 }

abbrev pub column_further : LineColumn → LineColumn
column_further position = record { line = position.line; column = position.column + 1 }

count_more : (lines : List ℕ) (c : ℕ) → count_by (λ d. d == 0xA) (lines ++ c ∷ []) ≡ count_by (λ d. d == 0xA) lines + cond (c == 0xA) 1 0
count_more lines c =
    let added = sum_by-append (λ d. cond {A = ℕ} (d == 0xA) 1 0) lines (c ∷ []) in
    omega (arith, added)

suffix_more : (lines : List ℕ) (c : ℕ) →
    suffix_len (λ d. not (d == 0xA)) (lines ++ c ∷ []) ≡ cond (not (c == 0xA)) (1 + suffix_len (λ d. not (d == 0xA)) lines) 0
suffix_more lines c = ap (prefix_len (λ d. not (d == 0xA))) (reverse-append lines (c ∷ []))

line_more : (lines : List ℕ) → position_in (lines ++ 0xA ∷ []) ≡ line_begun (position_in lines)
line_more lines =
    let count : count_by (λ d. d == 0xA) (lines ++ 0xA ∷ []) ≡ count_by (λ d. d == 0xA) lines + 1 = count_more lines 0xA in
    let column : suffix_len (λ d. not (d == 0xA)) (lines ++ 0xA ∷ []) ≡ 0 = suffix_more lines 0xA in
    ap₂ (λ a b. record { line = a; column = b }) (omega (arith, count)) (ap (λ n. 1 + n) column)

column_more : (lines : List ℕ) (c : ℕ) → (c == 0xA) ≡ false → position_in (lines ++ c ∷ []) ≡ column_further (position_in lines)
column_more lines c e =
    let count : count_by (λ d. d == 0xA) (lines ++ c ∷ []) ≡ count_by (λ d. d == 0xA) lines + 0 =
    count_more lines c ∙ ap (λ b. count_by (λ d. d == 0xA) lines + cond b 1 0) e in
    let column : suffix_len (λ d. not (d == 0xA)) (lines ++ c ∷ []) ≡ 1 + suffix_len (λ d. not (d == 0xA)) lines =
    suffix_more lines c ∙ ap (λ b. cond (not b) (1 + suffix_len (λ d. not (d == 0xA)) lines) 0) e in
    ap₂ (λ a b. record { line = a; column = b }) (omega (arith, count)) (omega (arith, column))

is_feed : (c : ℕ) (behind is_lf is_cr : Bool) → (is_lf ≡ true → (c ≡ 0xA) × (is_cr ≡ false)) → (is_cr || (is_lf && not behind)) ≡ true →
    (if behind && is_lf then [] else (if is_cr then 0xA else c) ∷ []) ≡ 0xA ∷ []
is_feed c behind true true h e = absurd (true≢false (h refl).1)
is_feed c true false true h e = refl
is_feed c false false true h e = refl
is_feed c true true false h e = absurd (true≢false (sym e))
is_feed c false true false h e = ap (λ d. d ∷ []) (h refl).0
is_feed c behind false false h e = absurd (true≢false (sym e))

is_nothing : (c : ℕ) (behind is_lf is_cr : Bool) → (is_cr || (is_lf && not behind)) ≡ false → is_lf ≡ true →
    (if behind && is_lf then [] else (if is_cr then 0xA else c) ∷ []) ≡ []
is_nothing c behind is_lf true e f = absurd (true≢false e)
is_nothing c true true false e f = refl
is_nothing c false true false e f = absurd (true≢false e)
is_nothing c behind false false e f = absurd (true≢false (sym f))

is_itself : (c : ℕ) (behind is_lf is_cr : Bool) → (is_cr || (is_lf && not behind)) ≡ false → is_lf ≡ false →
    (if behind && is_lf then [] else (if is_cr then 0xA else c) ∷ []) ≡ c ∷ []
is_itself c behind is_lf true e f = absurd (true≢false e)
is_itself c behind true false e f = absurd (true≢false f)
is_itself c true false false e f = refl
is_itself c false false false e f = refl

line_ended : (text : List ℕ) (c : ℕ) → ends_line (ends_with_return text) c ≡ true → position_behind (text ++ c ∷ []) ≡ line_begun (position_behind text)
line_ended text c e =
    ap position_in (with_lf_more text c ∙ ap (λ more. with_lf text ++ more) (is_feed c (ends_with_return text) (c == 0xA) (c == 0xD) (is_lf c) e))
    ∙ line_more (with_lf text)

line_ended_before : (text : List ℕ) (c : ℕ) → ends_line (ends_with_return text) c ≡ false → (c == 0xA) ≡ true →
    position_behind (text ++ c ∷ []) ≡ position_behind text
line_ended_before text c e f =
    ap position_in (with_lf_more text c ∙ ap (λ more. with_lf text ++ more) (is_nothing c (ends_with_return text) (c == 0xA) (c == 0xD) e f)
    ∙ append-nil (with_lf text))

line_goes_on : (text : List ℕ) (c : ℕ) → ends_line (ends_with_return text) c ≡ false → (c == 0xA) ≡ false →
    position_behind (text ++ c ∷ []) ≡ column_further (position_behind text)
line_goes_on text c e f =
    ap position_in (with_lf_more text c ∙ ap (λ more. with_lf text ++ more) (is_itself c (ends_with_return text) (c == 0xA) (c == 0xD) e f))
    ∙ column_more (with_lf text) c f

one_of_three : (position next : LineColumn) (ends is_lf : Bool) →
    (ends ≡ true → next ≡ line_begun position) → (ends ≡ false → is_lf ≡ true → next ≡ position)
    → (ends ≡ false → is_lf ≡ false → next ≡ column_further position) →
    next ≡ (if ends then line_begun position else if is_lf then position else column_further position)
one_of_three position next true is_lf a b c = a refl
one_of_three position next false true a b c = b refl refl
one_of_three position next false false a b c = c refl refl

pub position_more : (text : List ℕ) (c : ℕ) → position_behind (text ++ c ∷ []) ≡ next_position (position_behind text) (ends_with_return text) c
position_more text c =
    one_of_three (position_behind text) (position_behind (text ++ c ∷ [])) (ends_line (ends_with_return text) c) (c == 0xA)
    (line_ended text c) (line_ended_before text c) (line_goes_on text c)

abbrev pub size : LineColumn → ℕ
size position = position.line + position.column

size_more : (position : LineColumn) (n : ℕ) (ends is_lf : Bool) → 1 ≤ position.column → size position ≤ n →
    size (if ends then line_begun position else if is_lf then position else column_further position) ≤ n + 1
size_more position n true is_lf h l = omega arith
size_more position n false true h l = omega arith
size_more position n false false h l = omega arith

pub next_size : (text : List ℕ) (c n : ℕ) → size (position_behind text) ≤ n → size (next_position (position_behind text) (ends_with_return text) c) ≤ n + 1
next_size text c n l = size_more (position_behind text) n (ends_line (ends_with_return text) c) (c == 0xA) (omega arith) l
