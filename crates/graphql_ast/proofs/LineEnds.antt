-- Of LinesAndColumns: line terminators, and the characters of the last line, are counted by bytes.
use Rattle.std.proofs.Common.{◌≡◌, ℕ, ◌+◌, ◌-◌, ◌/◌, ◌%◌, ◌≤◌, ◌<◌, ◌==◌, Bool, true, false, not, ◌&&◌, ◌||◌, cond, if◌then◌else◌}
use Rattle.std.proofs.Common.{List, [], ◌∷◌, ◌++◌, codes, drop, length, nat_lt, reverse, take, Some}
use Rattle.std.proofs.Common.{refl, sym, ap, ◌∙◌, arith, append_assoc, append-nil, true≢false, count_by, inl, inr}
use Rattle.std.specs.List.{after_last, prefix_len, suffix_len}
use Rattle.std.proofs.Math.Dec.{ltb}
use Rattle.std.proofs.Math.Utf8.{encode, encodes}
use Rattle.std.proofs.Math.ListN.{drop_of_length-le, get_or}
use Rattle.std.proofs.Math.Seq.{take-length}
use Rattle.std.specs.Prelude.{slice_get}
use Rattle.std.proofs.lemmas.List.{drop-append-le, length_push, reverse-append, reverse-reverse, take_more}
use Rattle.std.proofs.lemmas.List.Sums.{suffix_len-le-length, sum_by-append}
use Rattle.std.proofs.lemmas.Option.{get_or_from_slice_get}
use Rattle.std.proofs.lemmas.Bool.{cases_lt, le-ltb, lt-ltb, ne_eqb}
use Rattle.std.specs.Str.{IsUtf8, chars}
use Rattle.std.proofs.lemmas.Str.{encode_ascii, encodes-chars}
use Rattle.graphql_text.specs.strings.BlockStringValue.{with_lf}
use Rattle.graphql_ast.specs.LinesAndColumns.{position_behind}
use Rattle.graphql_ast.specs.declared.document.lines_and_columns.LineColumn.{LineColumn}
use Rattle.graphql_ast.proofs.LinesAndColumnsSteps.{column_further, ends_from, ends_line, ends_more, ends_with_return, line_begun, position_more}

-- how many line terminators a text has
abbrev pub terminators : List ℕ → ℕ
terminators text = count_by (λ c. c == 0xA) (with_lf text)

-- how many lines end in a text, where a CR may stand before it
abbrev pub ends_in : Bool → List ℕ → ℕ
ends_in behind [] = 0
ends_in behind (c ∷ text) = cond (ends_line behind c) 1 0 + ends_in (c == 0xD) text

line_of_next : (p : LineColumn) (ends is_lf : Bool) →
    (if ends then line_begun p else if is_lf then p else column_further p).line ≡ p.line + cond ends 1 0
line_of_next p true is_lf = refl
line_of_next p false true = omega arith
line_of_next p false false = omega arith

terminators_one : (text : List ℕ) (c : ℕ) → terminators (text ++ c ∷ []) ≡ terminators text + cond (ends_line (ends_with_return text) c) 1 0
terminators_one text c =
    let line = ap (λ p. p.line) (position_more text c) ∙ line_of_next (position_behind text) (ends_line (ends_with_return text) c) (c == 0xA) in
    omega (arith, line)

pub terminators_more : (text more : List ℕ) → terminators (text ++ more) ≡ terminators text + ends_in (ends_with_return text) more
terminators_more text [] = ap terminators (append-nil text) ∙ omega arith
terminators_more text (c ∷ more) =
    let rest = terminators_more (text ++ c ∷ []) more in
    let split = ap terminators (append_assoc text (c ∷ []) more) in
    let state = ap (λ b. ends_in b more) (ends_more false text c) in
    let one = terminators_one text c in
    omega (arith, rest, split, state, one)

pub terminators_behind : (behind : Bool) (text : List ℕ) →
    (let before : List ℕ = if behind then codes "\r" else [] in terminators (before ++ text) ≡ terminators before + ends_in behind text)
terminators_behind true text = terminators_more (codes "\r") text
terminators_behind false text = terminators_more [] text

pub ends_append : (behind : Bool) (text more : List ℕ) → ends_in behind (text ++ more) ≡ ends_in behind text + ends_in (ends_from behind text) more
ends_append behind [] more = omega arith
ends_append behind (c ∷ text) more = let rest = ends_append (c == 0xD) text more in omega (arith, rest)

one_at_most : (n m : ℕ) (ends : Bool) → n ≤ m → cond ends 1 0 + n ≤ 1 + m
one_at_most n m true l = omega (arith, l)
one_at_most n m false l = omega (arith, l)

pub ends_in_size : (behind : Bool) (text : List ℕ) → ends_in behind text ≤ length text
ends_in_size behind [] = omega arith
ends_in_size behind (c ∷ text) =
    let size = one_at_most (ends_in (c == 0xD) text) (length text) (ends_line behind c) (ends_in_size (c == 0xD) text) in
    omega (arith, size)

pub ends_from_last : (behind : Bool) (text : List ℕ) (last : ℕ) → 0 < length text → slice_get text (length text - 1) ≡ Some last →
    ends_from behind text ≡ (last == 0xD)
ends_from_last behind text last some is =
    let before = take (length text - 1) text in
    let whole : before ++ get_or text (length text - 1) 0 ∷ [] ≡ text =
    sym (take_more text (length text - 1) 0 (omega (arith, some))) ∙ ap (λ n. take n text) (omega (arith, some)) ∙ take-length text in
    ap (ends_from behind) (sym whole)
    ∙ ends_more behind before (get_or text (length text - 1) 0)
    ∙ ap (λ c. c == 0xD) (get_or_from_slice_get text (length text - 1) last 0 is)

-- CHARACTERS OF THE LAST LINE

-- how many characters stand behind the last line terminator
abbrev pub last_line : List ℕ → ℕ
last_line text = suffix_len (λ c. not (c == 0xA)) (with_lf text)

-- the same, where so many stand before the text
abbrev pub last_chars : ℕ → List ℕ → ℕ
last_chars before [] = before
last_chars before (c ∷ text) = last_chars (if ends_line false c then 0 else before + 1) text

abbrev pub begins_character : ℕ → Bool
begins_character c = nat_lt c 0x80 || nat_lt 0xBF c

-- the same, by the bytes of the text
abbrev pub last_bytes : ℕ → List ℕ → ℕ
last_bytes before [] = before
last_bytes before (c ∷ text) = last_bytes (if ends_line false c then 0 else before + cond (begins_character c) 1 0) text

column_of_next : (p : LineColumn) (behind is_lf is_cr : Bool) → (behind ≡ true → p.column ≡ 1) →
    (if is_cr || (is_lf && not behind) then line_begun p else if is_lf then p else column_further p).column
    ≡ 1 + (if is_cr || (is_lf && not false) then 0 else p.column)
column_of_next p behind true true h = refl
column_of_next p behind false true h = refl
column_of_next p true true false h = h refl
column_of_next p false true false h = refl
column_of_next p behind false false h = omega arith

less_one : (m n : ℕ) (ends : Bool) → 1 + m ≡ 1 + (if ends then 0 else 1 + n) → m ≡ (if ends then 0 else n + 1)
less_one m n true e = omega (arith, e)
less_one m n false e = omega (arith, e)

last_line_one : (text : List ℕ) (c : ℕ) → (ends_with_return text ≡ true → last_line text ≡ 0) →
    last_line (text ++ c ∷ []) ≡ (if ends_line false c then 0 else last_line text + 1)
last_line_one text c h =
    less_one (last_line (text ++ c ∷ [])) (last_line text) (ends_line false c)
    (ap (λ p. p.column) (position_more text c)
    ∙ column_of_next (position_behind text) (ends_with_return text) (c == 0xA) (c == 0xD) (λ e. ap (λ n. 1 + n) (h e)))

ends_with_none : (n : ℕ) (is_lf is_cr : Bool) → is_cr ≡ true → (if is_cr || (is_lf && not false) then 0 else n) ≡ 0
ends_with_none n is_lf true e = refl
ends_with_none n is_lf false e = absurd (true≢false (sym e))

last_line_from : (text more : List ℕ) → (ends_with_return text ≡ true → last_line text ≡ 0) → last_line (text ++ more) ≡ last_chars (last_line text) more
last_line_from text [] h = ap last_line (append-nil text)
last_line_from text (c ∷ more) h =
    let one = last_line_one text c h in
    ap last_line (sym (append_assoc text (c ∷ []) more))
    ∙ last_line_from (text ++ c ∷ []) more (λ e. one ∙ ends_with_none (last_line text + 1) (c == 0xA) (c == 0xD) (sym (ends_more false text c) ∙ e))
    ∙ ap (λ n. last_chars n more) one

pub last_line_chars : (text : List ℕ) → last_line text ≡ last_chars 0 text
last_line_chars text = last_line_from [] text (λ e. absurd (true≢false (sym e)))

pub last_bytes_one : (before : ℕ) (text : List ℕ) (c : ℕ) →
    last_bytes before (text ++ c ∷ []) ≡ (if ends_line false c then 0 else last_bytes before text + cond (begins_character c) 1 0)
last_bytes_one before [] c = refl
last_bytes_one before (x ∷ text) c = last_bytes_one (if ends_line false x then 0 else before + cond (begins_character x) 1 0) text c

pub last_bytes_end : (before : ℕ) (text : List ℕ) (c : ℕ) → ends_line false c ≡ true → last_bytes before (text ++ c ∷ []) ≡ 0
last_bytes_end before text c ends =
    last_bytes_one before text c ∙ ap (λ (b : Bool). if b then 0 else last_bytes before text + cond (begins_character c) 1 0) ends

adds_none : (n : ℕ) (ends begins : Bool) → ends ≡ false → begins ≡ false → (if ends then 0 else n + cond begins 1 0) ≡ n
adds_none n true begins e f = absurd (true≢false e)
adds_none n false true e f = absurd (true≢false f)
adds_none n false false e f = omega arith

adds_one : (n : ℕ) (ends begins : Bool) → ends ≡ false → begins ≡ true → (if ends then 0 else n + cond begins 1 0) ≡ n + 1
adds_one n true begins e f = absurd (true≢false e)
adds_one n false true e f = refl
adds_one n false false e f = absurd (true≢false (sym f))

pub last_bytes_begun : (before : ℕ) (text : List ℕ) (c : ℕ) → ends_line false c ≡ false → begins_character c ≡ true →
    last_bytes before (text ++ c ∷ []) ≡ last_bytes before text + 1
last_bytes_begun before text c goes_on begins = last_bytes_one before text c ∙ adds_one _ _ _ goes_on begins

pub last_bytes_within : (before : ℕ) (text : List ℕ) (c : ℕ) → ends_line false c ≡ false → begins_character c ≡ false →
    last_bytes before (text ++ c ∷ []) ≡ last_bytes before text
last_bytes_within before text c goes_on continues = last_bytes_one before text c ∙ adds_none _ _ _ goes_on continues

-- CHARACTERS OF MORE THAN ONE BYTE

abbrev AreContinuations : List ℕ → Type 0
AreContinuations [] = Unit {0}
AreContinuations (c ∷ more) = (128 ≤ c) × (c < 192) × AreContinuations more

next_is : (n : ℕ) → (128 ≤ 128 + n % 64) × (128 + n % 64 < 192)
next_is n = (omega arith, omega arith)

abbrev IsLong : List ℕ → Type 0
IsLong bytes = (lead : ℕ) × (more : List ℕ) × (192 ≤ lead) × AreContinuations more × (bytes ≡ lead ∷ more)

one_of_four : (x y z : Bool) (one two three four : List ℕ) → x ≡ false → IsLong two → IsLong three → IsLong four →
    IsLong (cond x one (cond y two (cond z three four)))
one_of_four true y z one two three four e a b c = absurd (true≢false e)
one_of_four false true z one two three four e a b c = a
one_of_four false false true one two three four e a b c = b
one_of_four false false false one two three four e a b c = c

encode_high : (c : ℕ) → 128 ≤ c → IsLong (encode c)
unfolding encode
encode_high c high =
    let one = next_is c in
    let two = next_is (c / 64) in
    let three = next_is (c / 4096) in
    one_of_four (ltb c 128) (ltb c 2048) (ltb c 65536) _ _ _ _ (le-ltb c 128 high)
    (192 + c / 64, _, omega arith, (one.0, one.1, tt), refl)
    (224 + c / 4096, _, omega arith, (two.0, two.1, (one.0, one.1, tt)), refl)
    (240 + c / 262144, _, omega arith, (three.0, three.1, (two.0, two.1, (one.0, one.1, tt))), refl)

-- a byte from 128 on ends no line, and from 192 on it begins a character
no_end : (behind : Bool) (c : ℕ) → 128 ≤ c → (ends_line behind c ≡ false) × (ends_line false c ≡ false) × ((c == 0xD) ≡ false)
no_end behind c high =
    let cr = ne_eqb c 0xD (λ e. omega (arith, e, high)) in
    let lf = ne_eqb c 0xA (λ e. omega (arith, e, high)) in
    (rw (cr, lf) refl, rw (cr, lf) refl, cr)

begins : (c : ℕ) → 192 ≤ c → begins_character c ≡ true
begins c high = rw (le-ltb c 0x80 (omega arith), lt-ltb 0xBF c (omega arith)) refl

continues : (c : ℕ) → 128 ≤ c → c < 192 → begins_character c ≡ false
continues c low high = rw (le-ltb c 0x80 low, le-ltb 0xBF c (omega arith)) refl

counts_none : (behind : Bool) (c n : ℕ) → 128 ≤ c → cond (ends_line behind c) 1 0 + n ≡ n
counts_none behind c n high = let none = ap (λ b. cond {A = ℕ} b 1 0 + n) (no_end behind c high).0 in omega (arith, none)

ends_in_continuations : (more rest : List ℕ) → AreContinuations more → ends_in false (more ++ rest) ≡ ends_in false rest
ends_in_continuations [] rest are = refl
ends_in_continuations (c ∷ more) rest are =
    counts_none false c _ are.0
    ∙ ap (λ b. ends_in b (more ++ rest)) (no_end false c are.0).2
    ∙ ends_in_continuations more rest are.2

ends_in_long : (behind : Bool) (bytes rest : List ℕ) → IsLong bytes → ends_in behind (bytes ++ rest) ≡ ends_in false rest
ends_in_long behind bytes rest long =
    let high : 128 ≤ long.0 = omega (arith, long.2) in
    ap (λ bytes. ends_in behind (bytes ++ rest)) long.4
    ∙ counts_none behind long.0 _ high
    ∙ ap (λ b. ends_in b (long.1 ++ rest)) (no_end behind long.0 high).2
    ∙ ends_in_continuations long.1 rest long.3

last_of_continuations : (n : ℕ) (more rest : List ℕ) → AreContinuations more → last_bytes n (more ++ rest) ≡ last_bytes n rest
last_of_continuations n [] rest are = refl
last_of_continuations n (c ∷ more) rest are =
    ap (λ m. last_bytes m (more ++ rest)) (adds_none n _ _ (no_end false c are.0).1 (continues c are.0 are.1))
    ∙ last_of_continuations n more rest are.2

last_of_long : (n : ℕ) (bytes rest : List ℕ) → IsLong bytes → last_bytes n (bytes ++ rest) ≡ last_bytes (n + 1) rest
last_of_long n bytes rest long =
    ap (λ bytes. last_bytes n (bytes ++ rest)) long.4
    ∙ ap (λ m. last_bytes m (long.1 ++ rest)) (adds_one n _ _ (no_end false long.0 (omega (arith, long.2))).1 (begins long.0 long.2))
    ∙ last_of_continuations (n + 1) long.1 rest long.3

-- CHUNKS FROM THE END

pub last_bytes_append : (n : ℕ) (text more : List ℕ) → last_bytes n (text ++ more) ≡ last_bytes (last_bytes n text) more
last_bytes_append n [] more = refl
last_bytes_append n (c ∷ text) more = last_bytes_append (if ends_line false c then 0 else n + cond (begins_character c) 1 0) text more

goes_on : (is_cr is_lf : Bool) (text : List ℕ) → cond (is_cr || (is_lf && not false)) 1 0 + ends_in is_cr text ≡ 0 →
    ((is_cr || (is_lf && not false)) ≡ false) × (ends_in false text ≡ 0)
goes_on true is_lf text none = absurd (omega (arith, none))
goes_on false true text none = absurd (omega (arith, none))
goes_on false false text none = (refl, omega (arith, none))

-- where no line ends in bytes, each character that begins in them counts
pub last_bytes_on : (n : ℕ) (text : List ℕ) → ends_in false text ≡ 0 → last_bytes n text ≡ n + count_by begins_character text
last_bytes_on n [] none = omega arith
last_bytes_on n (c ∷ text) none =
    let on = goes_on (c == 0xD) (c == 0xA) text none in
    let rest = last_bytes_on (n + cond (begins_character c) 1 0) text on.1 in
    let one = sum_by-append (λ d. cond {A = ℕ} (begins_character d) 1 0) (c ∷ []) text in
    ap (λ (b : Bool). last_bytes (if b then 0 else n + cond (begins_character c) 1 0) text) on.0 ∙ omega (arith, rest, one)

anew_behind : (is_cr is_lf : Bool) (n m : ℕ) (text : List ℕ) → ((k l : ℕ) → 0 < ends_in false text → last_bytes k text ≡ last_bytes l text) →
    0 < cond (is_cr || (is_lf && not false)) 1 0 + ends_in is_cr text →
    last_bytes (if is_cr || (is_lf && not false) then 0 else n) text ≡ last_bytes (if is_cr || (is_lf && not false) then 0 else m) text
anew_behind true is_lf n m text rest some = refl
anew_behind false true n m text rest some = refl
anew_behind false false n m text rest some = rest n m (omega (arith, some))

-- where a line ends in bytes, nothing counts that stands before them
pub last_bytes_anew : (n m : ℕ) (text : List ℕ) → 0 < ends_in false text → last_bytes n text ≡ last_bytes m text
last_bytes_anew n m [] some = absurd (omega (arith, some))
last_bytes_anew n m (c ∷ text) some =
    anew_behind (c == 0xD) (c == 0xA) (n + cond (begins_character c) 1 0) (m + cond (begins_character c) 1 0) text
    (λ k l more. last_bytes_anew k l text more) some

abbrev begun_behind : List ℕ → ℕ
begun_behind text = count_by begins_character (after_last (λ c. (c == 0xD) || (c == 0xA)) text)

behind_more : (text : List ℕ) (c n m : ℕ) (is_cr is_lf : Bool) → n ≤ length text → m ≡ cond (not (is_cr || is_lf)) (1 + n) 0 →
    count_by begins_character (drop (length (text ++ c ∷ []) - m) (text ++ c ∷ []))
    ≡ (if is_cr || (is_lf && not false) then 0 else count_by begins_character (drop (length text - n) text) + cond (begins_character c) 1 0)
behind_more text c n m true is_lf within is =
    ap (count_by begins_character) (drop_of_length-le (text ++ c ∷ []) (omega (arith, is)))
behind_more text c n m false true within is =
    ap (count_by begins_character) (drop_of_length-le (text ++ c ∷ []) (omega (arith, is)))
behind_more text c n m false false within is =
    let size = length_push text c in
    let from : length (text ++ c ∷ []) - m ≡ length text - n = omega (arith, is, size) in
    let parts = ap (λ k. drop k (text ++ c ∷ [])) from ∙ drop-append-le (length text - n) text (c ∷ []) (omega arith) in
    let one = sum_by-append (λ d. cond {A = ℕ} (begins_character d) 1 0) (drop (length text - n) text) (c ∷ []) in
    ap (count_by begins_character) parts ∙ omega (arith, one)

behind_one : (text : List ℕ) (c : ℕ) →
    begun_behind (text ++ c ∷ []) ≡ (if ends_line false c then 0 else begun_behind text + cond (begins_character c) 1 0)
behind_one text c =
    behind_more text c (suffix_len (λ d. not ((d == 0xD) || (d == 0xA))) text) _ (c == 0xD) (c == 0xA)
    (suffix_len-le-length (λ d. not ((d == 0xD) || (d == 0xA))) text)
    (ap (prefix_len (λ d. not ((d == 0xD) || (d == 0xA)))) (reverse-append text (c ∷ [])))

behind_reversed : (text : List ℕ) → last_bytes 0 (reverse text) ≡ begun_behind (reverse text)
behind_reversed [] = refl
behind_reversed (c ∷ text) =
    let split : reverse (c ∷ text) ≡ reverse text ++ c ∷ [] = reverse-append (c ∷ []) text in
    ap (last_bytes 0) split
    ∙ last_bytes_one 0 (reverse text) c
    ∙ ap (λ n. if ends_line false c then 0 else n + cond (begins_character c) 1 0) (behind_reversed text)
    ∙ sym (behind_one (reverse text) c)
    ∙ ap begun_behind (sym split)

pub last_bytes_behind : (text : List ℕ) → last_bytes 0 text ≡ count_by begins_character (after_last (λ c. (c == 0xD) || (c == 0xA)) text)
last_bytes_behind text =
    ap (last_bytes 0) (sym (reverse-reverse text)) ∙ behind_reversed (reverse text) ∙ ap begun_behind (reverse-reverse text)

-- both are the same of a text's bytes as of its characters
pub ends_in_bytes : (behind : Bool) (text : List ℕ) → ends_in behind (encodes text) ≡ ends_in behind text
ends_in_bytes behind [] = refl
ends_in_bytes behind (c ∷ text) =
    elim (cases_lt c 128) [
      | inl low ↦
          ap (λ bytes. ends_in behind (bytes ++ encodes text)) (encode_ascii c low)
          ∙ ap (λ n. cond (ends_line behind c) 1 0 + n) (ends_in_bytes (c == 0xD) text)
      | inr high ↦
          ends_in_long behind (encode c) (encodes text) (encode_high c high)
          ∙ ends_in_bytes false text
          ∙ ap (λ b. ends_in b text) (sym (no_end behind c high).2)
          ∙ sym (counts_none behind c _ high)
    ]

if_low : (n : ℕ) (ends begins : Bool) → begins ≡ true → (if ends then 0 else n + cond begins 1 0) ≡ (if ends then 0 else n + 1)
if_low n ends true e = refl
if_low n ends false e = absurd (true≢false (sym e))

pub last_of_bytes : (n : ℕ) (text : List ℕ) → last_bytes n (encodes text) ≡ last_chars n text
last_of_bytes n [] = refl
last_of_bytes n (c ∷ text) =
    elim (cases_lt c 128) [
      | inl low ↦
          let first : begins_character c ≡ true = rw (lt-ltb c 0x80 low) refl in
          ap (λ bytes. last_bytes n (bytes ++ encodes text)) (encode_ascii c low)
          ∙ ap (λ m. last_bytes m (encodes text)) (if_low n (ends_line false c) (begins_character c) first)
          ∙ last_of_bytes (if ends_line false c then 0 else n + 1) text
      | inr high ↦
          last_of_long n (encode c) (encodes text) (encode_high c high)
          ∙ last_of_bytes (n + 1) text
          ∙ ap (λ (b : Bool). last_chars (if b then 0 else n + 1) text) (sym (no_end false c high).1)
    ]

all_ends : (text : List ℕ) → ends_in false text ≡ terminators text
all_ends text = let all = terminators_more [] text in omega (arith, all)

pub terminators_bytes : (bytes : List ℕ) → IsUtf8 bytes → ends_in false bytes ≡ terminators (chars bytes)
terminators_bytes bytes utf8 =
    ap (ends_in false) (sym (encodes-chars bytes utf8)) ∙ ends_in_bytes false (chars bytes) ∙ all_ends (chars bytes)

pub last_line_bytes : (bytes : List ℕ) → IsUtf8 bytes → last_bytes 0 bytes ≡ last_line (chars bytes)
last_line_bytes bytes utf8 =
    ap (last_bytes 0) (sym (encodes-chars bytes utf8)) ∙ last_of_bytes 0 (chars bytes) ∙ sym (last_line_chars (chars bytes))
