-- Of Offsets: units of characters, and where a text is cut by them.
use Rattle.std.proofs.Common.{◌≡◌, ◌+◌, ◌≤◌, ◌<◌, ◌∙◌, ◌++◌, ◌∷◌, [], ◌⊎◌, inl, inr, ℕ, List, Bool, false, true}
use Rattle.std.proofs.Common.{sym, ap, subst, arith, chars, length, if◌then◌else◌, nat_lt, sum_by, take, get_or}
use Rattle.std.proofs.lemmas.Bool.{cases_lt, cases_order}
use Rattle.std.proofs.lemmas.List.{length-append, take-append-le, take-take, take_all}
use Rattle.std.proofs.lemmas.List.Sums.{sum_by_more, sum_by-take-le}
use Rattle.std.proofs.lemmas.Str.{len_utf8_bounds}
use Rattle.ast_json_nodes.specs.declared.offsets.Offsets.TheVariants.{Bytes, CodePoints, Utf16}
use Rattle.ast_json_nodes.specs.declared.offsets.Offsets.{Offsets}
use Rattle.ast_json_nodes.specs.nodes.Offsets.{IsByteOf, IsFront, units}

one_or_two : (is_one : Bool) → (1 ≤ (if is_one then 1 else 2)) × ((if is_one then 1 else 2) ≤ 4)
one_or_two true = (omega arith, omega arith)
one_or_two false = (omega arith, omega arith)

-- a character has one unit to four
pub units_bounds : (offsets : Offsets) (c : ℕ) → (1 ≤ units offsets c) × (units offsets c ≤ 4)
units_bounds Utf16 c = one_or_two (nat_lt c 0x1_0000)
units_bounds CodePoints c = (omega arith, omega arith)
units_bounds Bytes c = len_utf8_bounds c

-- more characters have no fewer units
front_grows : (f : ℕ → ℕ) (text : List ℕ) (n k : ℕ) → n ≤ k → sum_by f (take n text) ≤ sum_by f (take k text)
front_grows f text n k le = subst (λ front. sum_by f front ≤ sum_by f (take k text)) (take-take n k text le) (sum_by-take-le f (take k text) n)

-- a character more has more
next_grows : (offsets : Offsets) (text : List ℕ) (n k : ℕ) → n < k → n < length text →
    sum_by (units offsets) (take n text) < sum_by (units offsets) (take k text)
next_grows offsets text n k lt within = omega (
  arith,
  sum_by_more (units offsets) text n 0 within,
  (units_bounds offsets (get_or text n 0)).0,
  front_grows (units offsets) text (n + 1) k (omega (arith, lt)),
)

-- no characters stand behind the last one
past_end : (text : List ℕ) (n k : ℕ) → length text ≤ n → n < k → take k text ≡ take n text
past_end text n k past lt = take_all k text (omega (arith, past, lt)) ∙ sym (take_all n text past)

-- The first characters of so many units are these, if there are fewer units before each of them, and as many up to there or no character behind.
same_front : (offsets : Offsets) (text : List ℕ) (n k offset : ℕ) →
    ((j : ℕ) → j < n → sum_by (units offsets) (take j text) < offset) →
    (n < length text → offset ≤ sum_by (units offsets) (take n text)) →
    sum_by (units offsets) (take k text) ≡ offset → take k text ≡ take n text
same_front offsets text n k offset below reached is = go (cases_order k n)
  where
    behind : n < k → (n < length text) ⊎ (length text ≤ n) → take k text ≡ take n text
    behind lt (inl within) = absurd (omega (arith, reached within, is, next_grows offsets text n k lt within))
    behind lt (inr past) = past_end text n k past lt

    go : (k ≡ n) ⊎ ((k < n) ⊎ (n < k)) → take k text ≡ take n text
    go (inl e) = ap (λ count. take count text) e
    go (inr (inl lt)) = absurd (omega (arith, below k lt, is))
    go (inr (inr gt)) = behind gt (cases_lt n (length text))

-- fewer units stand before each character of one more, if there are fewer before it
pub below_more : (f : ℕ → ℕ) (before : List ℕ) (c offset : ℕ) → ((j : ℕ) → j < length before → sum_by f (take j before) < offset) →
    sum_by f before < offset → (j : ℕ) → j < length (before ++ c ∷ []) → sum_by f (take j (before ++ c ∷ [])) < offset
below_more f before c offset below last j lt = go (cases_lt j (length before))
  where
    more : List ℕ
    more = before ++ c ∷ []

    at : (count : ℕ) → count ≤ length before → sum_by f (take count before) < offset → sum_by f (take count more) < offset
    at count le h = subst (λ front. sum_by f front < offset) (sym (take-append-le count before (c ∷ []) le)) h

    whole : sum_by f (take (length before) before) < offset
    whole = subst (λ front. sum_by f front < offset) (sym (take_all (length before) before (omega arith))) last

    go : (j < length before) ⊎ (length before ≤ j) → sum_by f (take j more) < offset
    go (inl within) = at j (omega (arith, within)) (below j within)
    go (inr past) = subst (λ count. sum_by f (take count more) < offset) (omega (arith, past, lt, length-append before (c ∷ [])))
        (at (length before) (omega arith) whole)

-- what has been gone through is a front of the text
pub front_of : (offsets : Offsets) (text so_far : List ℕ) (offset total bytes : ℕ) → so_far ≡ take (length so_far) (chars text) →
    total ≡ sum_by (units offsets) so_far → bytes ≡ sum_by (units Bytes) so_far →
    ((j : ℕ) → j < length so_far → sum_by (units offsets) (take j so_far) < offset) →
    (length so_far < length (chars text) → offset ≤ sum_by (units offsets) so_far) → IsFront offsets text offset total bytes
front_of offsets text so_far offset total bytes front is_total is_bytes below reached = (
  length so_far,
  sym (is_total ∙ ap (sum_by (units offsets)) front),
  sym (is_bytes ∙ ap (sum_by (units Bytes)) front),
  λ other is. same_front offsets (chars text) (length so_far) other offset
      (λ j lt. subst (λ some. sum_by (units offsets) some < offset) (earlier j lt) (below j lt))
      (λ lt. subst (λ some. offset ≤ sum_by (units offsets) some) front (reached lt)) is,
)
  where
    earlier : (j : ℕ) → j < length so_far → take j so_far ≡ take j (chars text)
    earlier j lt = ap (take j) front ∙ take-take j (length so_far) (chars text) (omega (arith, lt))

-- a later offset means no earlier byte
pub bytes_grow : (offsets : Offsets) (text : List ℕ) (start end first last : ℕ) → start ≤ end →
    IsByteOf offsets text start first → IsByteOf offsets text end last → first ≤ last
bytes_grow offsets text start end first last ordered a b = go (cases_lt b.0 a.0)
  where
    behind : b.0 < a.0 → (b.0 < length (chars text)) ⊎ (length (chars text) ≤ b.0) → first ≤ last
    behind lt (inl within) = absurd (omega (arith, ordered, a.1, b.1, next_grows offsets (chars text) b.0 a.0 lt within))
    behind lt (inr past) = omega (arith, a.2, b.2, ap (sum_by (units Bytes)) (past_end (chars text) b.0 a.0 past lt))

    go : (b.0 < a.0) ⊎ (a.0 ≤ b.0) → first ≤ last
    go (inl lt) = behind lt (cases_lt b.0 (length (chars text)))
    go (inr le) = omega (arith, a.2, b.2, front_grows (units Bytes) (chars text) a.0 b.0 le)
