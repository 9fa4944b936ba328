-- The first characters of a text, one by one.
use Rattle.std.proofs.Common.{◌≡◌, ℕ, ◌≤◌, ◌<◌, ◌+◌, Bool, true, false, ◌&&◌, nat_lt, List, [], ◌∷◌, ◌++◌, length, take}
use Rattle.std.proofs.Common.{refl, sym, ap, ◌∙◌, subst, append_assoc, length-append, arith}
use Rattle.std.specs.Prelude.{encode_utf8, encode_utf8_all}
use Rattle.std.proofs.Math.Utf8.{scalars}
use Rattle.std.specs.Str.{chars, IsUtf8}
use Rattle.std.proofs.lemmas.List.{append-nil, take_all, take-append-le}
use Rattle.std.proofs.lemmas.Str.{chars-append, chars-encodes, chars_past_char, scalars-chars}

both_first : (a b : Bool) → (a && b) ≡ true → (a && true) ≡ true
both_first true b is = refl
both_first false b is = is

one_char : (c : ℕ) (cs : List ℕ) → scalars (c ∷ cs) ≡ true → chars (encode_utf8 c) ≡ c ∷ []
one_char c cs are = ap chars (sym (append-nil (encode_utf8 c))) ∙ chars-encodes (c ∷ []) (both_first _ (scalars cs) are)

-- a character more stands in the text, and one fewer behind it
pub one_char_more : (found : List ℕ) (text rest after : List ℕ) (c : ℕ) → IsUtf8 text → IsUtf8 rest → rest ≡ encode_utf8 c ++ after →
    found ≡ chars text ++ chars rest →
    (found ≡ chars (text ++ encode_utf8 c) ++ chars after) × (length (chars (text ++ encode_utf8 c)) ≡ length (chars text) + 1)
one_char_more found text rest after c is_text is_rest is before =
    let past : chars rest ≡ c ∷ chars after = chars_past_char rest after c is_rest is in
    let alone : chars (encode_utf8 c) ≡ c ∷ [] =
    one_char c (chars after) (subst (λ (cs : List ℕ). scalars cs ≡ true) past (scalars-chars rest is_rest)) in
    let longer : chars (text ++ encode_utf8 c) ≡ chars text ++ c ∷ [] = chars-append text (encode_utf8 c) is_text ∙ ap (λ cs. chars text ++ cs) alone in (
      before ∙ ap (λ cs. chars text ++ cs) past ∙ sym (append_assoc (chars text) (c ∷ []) (chars after)) ∙ ap (λ cs. cs ++ chars after) (sym longer),
      ap length longer ∙ length-append (chars text) (c ∷ []),
    )

-- a text of n characters with more behind it
pub cut_behind : (found text rest after : List ℕ) (c n : ℕ) → IsUtf8 rest → rest ≡ encode_utf8 c ++ after →
    found ≡ text ++ chars rest → length text ≡ n → (text ≡ take n found) × (true ≡ nat_lt n (length found))
cut_behind found text rest after c n is_rest is before long =
    let past : chars rest ≡ c ∷ chars after = chars_past_char rest after c is_rest is in
    let size : length found ≡ length text + length (chars rest) = ap length before ∙ length-append text (chars rest) in
    let one : length (chars rest) ≡ length (chars after) + 1 = ap length past ∙ omega arith in (
      sym (ap (λ (cs : List ℕ). take n cs) before ∙ take-append-le n text (chars rest) (omega (arith, long)) ∙ take_all n text (omega (arith, long))),
      grind (arith, size, one, long),
    )

-- a text of at most n characters, which is all
pub all_told : (found text rest : List ℕ) (n : ℕ) → rest ≡ [] → found ≡ text ++ chars rest → length text ≤ n →
    (text ≡ take n found) × (false ≡ nat_lt n (length found))
unfolding chars
all_told found text rest n none before short =
    let same : found ≡ text = before ∙ ap (λ (cs : List ℕ). text ++ chars cs) none ∙ append-nil text in
    (sym (ap (λ (cs : List ℕ). take n cs) same ∙ take_all n text short), grind (arith, short, ap length same))
