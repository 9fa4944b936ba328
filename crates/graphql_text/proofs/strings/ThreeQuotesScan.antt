-- The scan of a text for `"""`.
use Rattle.std.proofs.Common.{◌≡◌, ℕ, suc, ◌+◌, ◌-◌, ◌<◌, ◌≤◌, Bool, true, false, ◌||◌, ◌&&◌, ◌==◌, List, [], ◌∷◌, ◌++◌, length, take, drop}
use Rattle.std.proofs.Common.{get_or, refl, ap, sym, ◌∙◌, arith, append_assoc, length-drop, drop-drop, drop-cons, add-one, take_all}
use Rattle.std.proofs.Common.{Decides, ◌⊎◌, inl, inr, IsUtf8, eqb-true}
use Rattle.std.specs.Str.{IsCharBoundary}
use Rattle.std.proofs.lemmas.Str.{IsCharBoundary-after_ascii}
use Rattle.graphql_text.specs.lexical.Characters.{begins_with, quotes, escaped_quotes}
use Rattle.graphql_text.specs.strings.BlockForm.{escape_quotes, broken_line}
use Rattle.graphql_text.proofs.strings.EscapeQuotesSteps.{escape_here, escape_not_here}
use Rattle.graphql_text.proofs.reader.StringsRead.{begins_cut}
use Rattle.graphql_text.proofs.strings.EscapeRuns.{run, run_none, run_more}

-- WHETHER THEY STAND THERE

at_place : (t : List ℕ) (i j : ℕ) → j ≡ i + 1 → i < length t → drop i t ≡ get_or t i 0 ∷ drop j t
at_place t i j e h = rw (e, add-one) (drop-cons t i 0 h)

-- at a place a, where b and c are the next two
pub quotes_at : (t : List ℕ) (a b c : ℕ) → b ≡ a + 1 → c ≡ b + 1 → c < length t →
    begins_with quotes (drop a t) ≡ (((get_or t a 0 == 34) && (get_or t b 0 == 34)) && (get_or t c 0 == 34))
quotes_at t a b c e f h =
    ap (begins_with quotes) (at_place t a b e (omega arith)
    ∙ ap (λ (x : List ℕ). get_or t a 0 ∷ x)
    (at_place t b c f (omega arith) ∙ ap (λ (x : List ℕ). get_or t b 0 ∷ x) (at_place t c (c + 1) refl h)))
    ∙ three (get_or t a 0 == 34) (get_or t b 0 == 34) (get_or t c 0 == 34)
  where
    three : (x y z : Bool) → (x && (y && (z && true))) ≡ ((x && y) && z)
    three true true true = refl
    three true true false = refl
    three true false z = refl
    three false y z = refl

pub quotes_end : (t : List ℕ) (k : ℕ) → begins_with quotes (drop k t) ≡ true → k + 2 < length t
quotes_end t k h = omega (arith, ap length (begins_cut quotes (drop k t) h), length-drop k t)

-- one more place
pub found_more : (t : List ℕ) (found here : Bool) (a i : ℕ) → i ≡ a + 2 → begins_with quotes (drop a t) ≡ here →
    (found ≡ true → (k : ℕ) × (begins_with quotes (drop k t) ≡ true)) → (found || here) ≡ true →
    (k : ℕ) × (begins_with quotes (drop k t) ≡ true)
found_more t true here a i at is before h = before refl
found_more t false here a i at is before h = (a, is ∙ h)

pub not_found_more : (t : List ℕ) (found here : Bool) (a i : ℕ) → i ≡ a + 2 → begins_with quotes (drop a t) ≡ here →
    (found ≡ false → (k : ℕ) → k + 2 < i → begins_with quotes (drop k t) ≡ false) → (found || here) ≡ false → (k : ℕ) → k + 2 < i + 1 →
    begins_with quotes (drop k t) ≡ false
not_found_more t true here a i at is before h k l = cc
not_found_more t false here a i at is before h k l = go (last k a (omega arith))
  where
    last : (k a : ℕ) → k ≤ a → (k < a) ⊎ (k ≡ a)
    last k a l = grind arith

    go : (k < a) ⊎ (k ≡ a) → begins_with quotes (drop k t) ≡ false
    go (inl less) = before refl k (omega arith)
    go (inr same) = ap (λ n. begins_with quotes (drop n t)) same ∙ is ∙ h

pub found_decides : (t : List ℕ) (found : Bool) → (found ≡ true → (k : ℕ) × (begins_with quotes (drop k t) ≡ true)) →
    (found ≡ false → (k : ℕ) → k + 2 < length t → begins_with quotes (drop k t) ≡ false) →
    Decides found ((k : ℕ) × (begins_with quotes (drop k t) ≡ true))
found_decides t true somewhere nowhere = (somewhere, λ p. refl)
found_decides t false somewhere nowhere = (somewhere, λ p. sym (nowhere refl p.0 (quotes_end t p.0 p.1)) ∙ p.1)

-- where they stand nowhere, nothing is escaped
pub no_quotes : (t : List ℕ) → ((k : ℕ) → begins_with quotes (drop k t) ≡ true → ⊥) → escape_quotes t ≡ t
no_quotes [] none = refl
no_quotes (c ∷ t) none = go (begins_with quotes (c ∷ t)) refl (no_quotes t (λ k h. none (suc k) h))
  where
    go : (b : Bool) → begins_with quotes (c ∷ t) ≡ b → escape_quotes t ≡ t → escape_quotes (c ∷ t) ≡ c ∷ t
    go true e r = absurd (none 0 e)
    go false e r = escape_not_here c t e ∙ ap (λ (x : List ℕ). c ∷ x) r

-- WHAT IS PASSED, AND WHAT IS STILL TO COME

not_here : (t : List ℕ) (i : ℕ) → i < length t → begins_with quotes (drop i t) ≡ false →
    escape_quotes (drop i t) ≡ get_or t i 0 ∷ escape_quotes (drop (i + 1) t)
not_here t i h e =
    let d = at_place t i (i + 1) refl h in
    let f : begins_with quotes (get_or t i 0 ∷ drop (i + 1) t) ≡ false = ap (begins_with quotes) (sym d) ∙ e in
    ap escape_quotes d ∙ escape_not_here (get_or t i 0) (drop (i + 1) t) f

pub scan_plain : (t : List ℕ) (from i : ℕ) → from ≤ i → i < length t → begins_with quotes (drop i t) ≡ false →
    run t from (i + 1) ++ escape_quotes (drop (i + 1) t) ≡ run t from i ++ escape_quotes (drop i t)
scan_plain t from i h l q =
    ap (λ (x : List ℕ). x ++ escape_quotes (drop (i + 1) t)) (run_more t from i h l)
    ∙ append_assoc (run t from i) (get_or t i 0 ∷ []) (escape_quotes (drop (i + 1) t))
    ∙ ap (λ (x : List ℕ). run t from i ++ x) (sym (not_here t i l q))

pub scan_quotes : (t : List ℕ) (i : ℕ) → begins_with quotes (drop i t) ≡ true → escape_quotes (drop i t) ≡ escaped_quotes ++ escape_quotes (drop (i + 3) t)
scan_quotes t i q =
    escape_here (drop i t) q ∙ ap (λ (x : List ℕ). escaped_quotes ++ escape_quotes x) (drop-drop 3 i t)

pub scan_more : (t done : List ℕ) (from i : ℕ) → begins_with quotes (drop i t) ≡ true →
    ((done ++ run t from i) ++ escaped_quotes) ++ (run t (i + 3) (i + 3) ++ escape_quotes (drop (i + 3) t))
    ≡ done ++ (run t from i ++ escape_quotes (drop i t))
scan_more t done from i q =
    ap (λ (x : List ℕ). ((done ++ run t from i) ++ escaped_quotes) ++ (x ++ escape_quotes (drop (i + 3) t))) (run_none t (i + 3))
    ∙ append_assoc (done ++ run t from i) escaped_quotes (escape_quotes (drop (i + 3) t))
    ∙ append_assoc done (run t from i) (escaped_quotes ++ escape_quotes (drop (i + 3) t))
    ∙ ap (λ (x : List ℕ). done ++ (run t from i ++ x)) (sym (scan_quotes t i q))

-- `&t[i..]`
pub begins_rest : (t : List ℕ) (i : ℕ) (r b : Bool) → r ≡ begins_with quotes (take (length t - i) (drop i t)) → r ≡ b → begins_with quotes (drop i t) ≡ b
begins_rest t i r b e f = ap (begins_with quotes) (sym (take_all (length t - i) (drop i t) (omega (arith, length-drop i t)))) ∙ sym e ∙ f

third : (t : List ℕ) (i : ℕ) → begins_with quotes (drop i t) ≡ true → get_or t (i + 2) 0 < 128
third t i q =
    go (get_or t i 0 == 34) (get_or t (i + 1) 0 == 34) (get_or t (i + 2) 0 == 34) refl
    (sym (quotes_at t i (i + 1) (i + 2) refl (omega arith) (quotes_end t i q)) ∙ q)
  where
    go : (x y z : Bool) → (get_or t (i + 2) 0 == 34) ≡ z → ((x && y) && z) ≡ true → get_or t (i + 2) 0 < 128
    go true true true e h = omega (arith, eqb-true (get_or t (i + 2) 0) 34 e)
    go true true false e h = cc
    go true false z e h = cc
    go false y z e h = cc

pub after_quotes : (t : List ℕ) (i : ℕ) → IsUtf8 t → begins_with quotes (drop i t) ≡ true → IsCharBoundary t (i + 3)
after_quotes t i u q =
    let e : i + 2 + 1 ≡ i + 3 = omega arith in
    rw e at (IsCharBoundary-after_ascii t (i + 2) u (quotes_end t i q) (third t i q))

-- A LINE THAT ISN'T EMPTY

pub broken_some : (p l : List ℕ) → 0 < length l → broken_line p l ≡ (10 ∷ p) ++ escape_quotes l
broken_some p [] h = absurd (omega arith)
broken_some p (c ∷ l) h = refl
