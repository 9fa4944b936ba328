-- The value of the raw value of a block form.
use Rattle.std.proofs.Common.{◌≡◌, ℕ, zero, suc, ◌+◌, ◌-◌, ◌≤◌, min, Bool, true, false, not, ◌&&◌, ◌==◌, if◌then◌else◌, List, [], ◌∷◌, ◌++◌}
use Rattle.std.proofs.Common.{map, filter, fold, length, drop, get_or, flat_map, ◌⊎◌, inl, inr, arith, refl, ap, sym, ◌∙◌, append_assoc}
use Rattle.std.proofs.Common.{append-nil, true≢false, ap₂}
use Rattle.std.specs.List.{list_any, list_all, onto_first, join_with_byte, prefix_len}
use Rattle.graphql_text.specs.strings.BlockStringValue.{lines_of, is_blank, with_lf, least, common_indent, unindented, without_first_blank}
use Rattle.graphql_text.specs.strings.BlockStringValue.{without_last_blank, block_string_value}
use Rattle.graphql_text.specs.lexical.Characters.{is_space_or_tab}
use Rattle.std.proofs.lemmas.List.Splits.{join_with_byte-slice_split}
use Rattle.graphql_text.specs.strings.BlockForm.{begins_unindented}

-- Lines

pub plain_space : (c : ℕ) → is_space_or_tab c ≡ true →
    ((c == 34) ≡ false) × ((c == 92) ≡ false) × ((c == 10) ≡ false) × ((c == 13) ≡ false)
plain_space c h = grind arith

-- a line in its place: an empty one stays so
abbrev pub indented : List ℕ → List ℕ → List ℕ
indented p [] = []
indented p (c ∷ l) = p ++ c ∷ l

abbrev pub raw_line : List ℕ → List ℕ → List ℕ
raw_line p l = 10 ∷ indented p l

-- the raw value of the form over lines
abbrev pub raw_lines : List ℕ → List (List ℕ) → List ℕ
raw_lines p ls = flat_map (raw_line p) ls ++ 10 ∷ p

abbrev clean_char : ℕ → Bool
clean_char c = not (c == 10) && not (c == 13)

abbrev clean : List ℕ → Bool
clean = list_all clean_char

abbrev on_first : List ℕ → List (List ℕ) → List (List ℕ)
on_first l [] = l ∷ []
on_first l (m ∷ ms) = (l ++ m) ∷ ms

on_first_none : (text : List ℕ) → on_first [] (lines_of text) ≡ lines_of text
on_first_none [] = refl
on_first_none (c ∷ text) = grind arith

before_on_first : (c : ℕ) (l : List ℕ) (ms : List (List ℕ)) →
    onto_first c (on_first l ms) ≡ on_first (c ∷ l) ms
before_on_first c l [] = refl
before_on_first c l (m ∷ ms) = refl

lines_clean : (l t : List ℕ) → clean l ≡ true →
    lines_of (with_lf (l ++ t)) ≡ on_first l (lines_of (with_lf t))
lines_clean [] t h = sym (on_first_none (with_lf t))
lines_clean (c ∷ l) t h =
    let lf : (c == 10) ≡ false = grind arith in
    let cr : (c == 13) ≡ false = grind arith in
    rw (cr, lf) (ap (onto_first c) (lines_clean l t (grind arith)) ∙ before_on_first c l (lines_of (with_lf t)))

blank_clean : (p : List ℕ) → is_blank p ≡ true → clean p ≡ true
blank_clean [] h = refl
blank_clean (c ∷ p) h =
    let s : is_space_or_tab c ≡ true = grind arith in
    let plain = plain_space c s in
    rw (plain.2, plain.3) (blank_clean p (grind arith))

clean_append : (p l : List ℕ) → clean p ≡ true → clean l ≡ true → clean (p ++ l) ≡ true
clean_append [] l h k = k
clean_append (c ∷ p) l h k =
    let one : clean_char c ≡ true = grind arith in
    rw one (clean_append p l (grind arith) k)

indented_clean : (p l : List ℕ) → is_blank p ≡ true → clean l ≡ true → clean (indented p l) ≡ true
indented_clean p [] h k = refl
indented_clean p (c ∷ l) h k = clean_append p (c ∷ l) (blank_clean p h) k

pub lines_are_clean : (v : List ℕ) → list_all (λ c. not (c == 13)) v ≡ true →
    list_all clean (lines_of v) ≡ true
lines_are_clean [] h = refl
lines_are_clean (c ∷ v) h =
    let r : list_all clean (lines_of v) ≡ true = lines_are_clean v (grind arith) in grind arith

raw_lines_are : (p : List ℕ) (ls : List (List ℕ)) → is_blank p ≡ true → list_all clean ls ≡ true →
    lines_of (with_lf (raw_lines p ls)) ≡ [] ∷ (map (indented p) ls ++ p ∷ [])
raw_lines_are p [] h k =
    ap (λ (x : List ℕ). [] ∷ lines_of (with_lf x)) (sym (append-nil p)) ∙
    ap (λ (x : List (List ℕ)). [] ∷ x) (lines_clean p [] (blank_clean p h) ∙ ap (λ (x : List ℕ). x ∷ []) (append-nil p))
raw_lines_are p (l ∷ ls) h k =
    ap (λ (x : List ℕ). [] ∷ lines_of (with_lf x)) (append_assoc (indented p l) (flat_map (raw_line p) ls) (10 ∷ p)) ∙
    ap (λ (x : List (List ℕ)). [] ∷ x) (
    lines_clean (indented p l) (raw_lines p ls) (indented_clean p l h (grind arith)) ∙
    ap (on_first (indented p l)) (raw_lines_are p ls h (grind arith)) ∙
    ap (λ (x : List ℕ). x ∷ (map (indented p) ls ++ p ∷ [])) (append-nil (indented p l)))

-- The common indentation

AtLeast : ℕ → List ℕ → Type 0
AtLeast k [] = Unit {0}
AtLeast k (n ∷ ns) = (k ≤ n) × AtLeast k ns

Occurs : ℕ → List ℕ → Type 0
Occurs k [] = ⊥
Occurs k (n ∷ ns) = (n ≡ k) ⊎ Occurs k ns

least_from : (k n : ℕ) (ns : List ℕ) → k ≤ n → AtLeast k ns → ((n ≡ k) ⊎ Occurs k ns) →
    fold min n ns ≡ k
unfolding AtLeast Occurs
least_from k n [] h a o = elim o [ inl e ↦ e | inr b ↦ absurd b ]
least_from k n (m ∷ ms) h a o =
    least_from k (min n m) ms (omega (arith, a.0)) a.1
    (elim o [ inl e ↦ inl (omega (arith, a.0)) | inr q ↦ elim q [ inl e ↦ inl (omega (arith, a.0)) | inr r ↦ inr r ] ])

least_is : (k : ℕ) (ns : List ℕ) → AtLeast k ns → Occurs k ns → least ns ≡ k
unfolding AtLeast Occurs
least_is k [] a o = absurd o
least_is k (n ∷ ns) a o = least_from k n ns a.0 a.1 o

-- the indentations that count
abbrev indents : List (List ℕ) → List ℕ
indents lines = map (prefix_len is_space_or_tab) (filter (λ line. not (is_blank line)) lines)

blank_then : (p l : List ℕ) → is_blank p ≡ true →
    (is_blank (p ++ l) ≡ is_blank l) × (prefix_len is_space_or_tab (p ++ l) ≡ length p + prefix_len is_space_or_tab l)
blank_then [] l h = (refl, omega arith)
blank_then (c ∷ p) l h =
    let s : is_space_or_tab c ≡ true = grind arith in
    let r = blank_then p l (grind arith) in
    rw s (r.0, omega (arith, r.1))

indents_none : (p : List ℕ) → is_blank p ≡ true → indents (p ∷ []) ≡ []
indents_none p h = rw h refl

at_least : (p : List ℕ) (ls : List (List ℕ)) → is_blank p ≡ true →
    AtLeast (length p) (indents (map (indented p) ls ++ p ∷ []))
unfolding AtLeast
at_least p [] h = rw (indents_none p h) tt
at_least p ([] ∷ ls) h = at_least p ls h
at_least p ((c ∷ l) ∷ ls) h = go (is_blank (p ++ c ∷ l)) refl (at_least p ls h)
  where
    go : (b : Bool) → is_blank (p ++ c ∷ l) ≡ b →
        AtLeast (length p) (indents (map (indented p) ls ++ p ∷ [])) →
        AtLeast (length p) (indents (map (indented p) ((c ∷ l) ∷ ls) ++ p ∷ []))
    go true e r = rw e r
    go false e r = rw e (omega (arith, (blank_then p (c ∷ l) h).1), r)

occurs : (p : List ℕ) (ls : List (List ℕ)) → is_blank p ≡ true →
    list_any begins_unindented ls ≡ true →
    Occurs (length p) (indents (map (indented p) ls ++ p ∷ []))
unfolding Occurs
occurs p [] h k = absurd (true≢false (sym k))
occurs p ([] ∷ ls) h k = occurs p ls h k
occurs p ((c ∷ l) ∷ ls) h k = go (is_space_or_tab c) refl (occurs p ls h)
  where
    later : (b : Bool) → is_blank (p ++ c ∷ l) ≡ b →
        Occurs (length p) (indents (map (indented p) ls ++ p ∷ [])) →
        Occurs (length p) (indents (map (indented p) ((c ∷ l) ∷ ls) ++ p ∷ []))
    later true e r = rw e r
    later false e r = rw e (inr r)

    go : (b : Bool) → is_space_or_tab c ≡ b →
        (list_any begins_unindented ls ≡ true → Occurs (length p) (indents (map (indented p) ls ++ p ∷ []))) →
        Occurs (length p) (indents (map (indented p) ((c ∷ l) ∷ ls) ++ p ∷ []))
    go true e r = later (is_blank (p ++ c ∷ l)) refl (r (grind arith))
    go false e r =
        let f : is_blank (p ++ c ∷ l) ≡ false = (blank_then p (c ∷ l) h).0 ∙ rw e refl in
        let n : prefix_len is_space_or_tab (p ++ c ∷ l) ≡ length p = (blank_then p (c ∷ l) h).1 ∙ rw e (omega arith) in
        rw f (inl n)

indent_found : (p : List ℕ) (ls : List (List ℕ)) → is_blank p ≡ true →
    list_any begins_unindented ls ≡ true →
    common_indent (map (indented p) ls ++ p ∷ []) ≡ length p
indent_found p ls h k =
    least_is (length p) (indents (map (indented p) ls ++ p ∷ [])) (at_least p ls h) (occurs p ls h k)

-- The lines without it

drop_none : (n : ℕ) → drop {A = ℕ} n [] ≡ []
drop_none zero = refl
drop_none (suc n) = refl

drop_front : (p l : List ℕ) → drop (length p) (p ++ l) ≡ l
drop_front [] l = refl
drop_front (c ∷ p) l = drop_front p l

drop_indented : (p l : List ℕ) → drop (length p) (indented p l) ≡ l
drop_indented p [] = drop_none (length p)
drop_indented p (c ∷ l) = drop_front p (c ∷ l)

drop_all : (p : List ℕ) (ls : List (List ℕ)) →
    map (drop (length p)) (map (indented p) ls ++ p ∷ []) ≡ ls ++ [] ∷ []
drop_all p [] =
    ap (λ (x : List ℕ). x ∷ []) (ap (drop (length p)) (sym (append-nil p)) ∙ drop_front p [])
drop_all p (l ∷ ls) =
    ap₂ (λ (x : List ℕ) (xs : List (List ℕ)). x ∷ xs) (drop_indented p l) (drop_all p ls)

last_kept : (l : List ℕ) (ls : List (List ℕ)) → is_blank (get_or (l ∷ ls) (length ls) []) ≡ false →
    (list_all is_blank (l ∷ ls ++ [] ∷ []) ≡ false) × (without_last_blank (l ∷ ls ++ [] ∷ []) ≡ l ∷ ls)
last_kept l [] h = rw h (refl, refl)
last_kept l (m ∷ ms) h =
    let r = last_kept m ms h in
    let e : list_all is_blank (l ∷ ((m ∷ ms) ++ [] ∷ [])) ≡ false = rw r.0 (both_false (is_blank l)) in
    (e, ap (λ (b : Bool). if b then [] else l ∷ without_last_blank ((m ∷ ms) ++ [] ∷ [])) e ∙ ap (λ (x : List (List ℕ)). l ∷ x) r.1)
  where
    both_false : (b : Bool) → (b && false) ≡ false
    both_false true = refl
    both_false false = refl

lines_kept : (ls : List (List ℕ)) → is_blank (get_or ls (length ls - 1) []) ≡ false →
    without_last_blank (ls ++ [] ∷ []) ≡ ls
lines_kept [] h = cc
lines_kept (l ∷ ls) h = (last_kept l ls (ap (λ n. is_blank (get_or (l ∷ ls) n [])) last ∙ h)).1
  where
    last : length ls ≡ length (l ∷ ls) - 1
    last = omega arith

first_kept : (ls : List (List ℕ)) → is_blank (get_or ls 0 []) ≡ false →
    without_first_blank ([] ∷ (ls ++ [] ∷ [])) ≡ ls ++ [] ∷ []
first_kept [] h = absurd (true≢false h)
first_kept (l ∷ ls) h = rw h refl

-- The value

pub many_value : (p v : List ℕ) → is_blank p ≡ true → list_all (λ c. not (c == 13)) v ≡ true →
    is_blank (get_or (lines_of v) 0 []) ≡ false → is_blank (get_or (lines_of v) (length (lines_of v) - 1) []) ≡ false →
    list_any begins_unindented (lines_of v) ≡ true →
    block_string_value (raw_lines p (lines_of v)) ≡ v
many_value p v h cr f l b =
    let ls = lines_of v in
    ap (λ (x : List (List ℕ)). join_with_byte 10 (without_last_blank (without_first_blank (unindented x)))) (raw_lines_are p ls h (lines_are_clean v cr)) ∙
    ap (λ (n : ℕ). join_with_byte 10 (without_last_blank (without_first_blank ([] ∷ map (drop n) (map (indented p) ls ++ p ∷ []))))) (indent_found p ls h b) ∙
    ap (λ (x : List (List ℕ)). join_with_byte 10 (without_last_blank (without_first_blank ([] ∷ x)))) (drop_all p ls) ∙
    ap (λ (x : List (List ℕ)). join_with_byte 10 (without_last_blank x)) (first_kept ls f) ∙
    ap (join_with_byte 10) (lines_kept ls l) ∙
    join_with_byte-slice_split 10 v

-- a text without line feed is one line
pub lines_one : (v : List ℕ) → list_any (λ c. c == 10) v ≡ false → lines_of v ≡ v ∷ []
lines_one [] h = refl
lines_one (c ∷ v) h =
    let e : (c == 10) ≡ false = grind arith in
    rw e (ap (onto_first c) (lines_one v (grind arith)))

with_lf_same : (v : List ℕ) → list_all (λ c. not (c == 13)) v ≡ true → with_lf v ≡ v
with_lf_same [] h = refl
with_lf_same (c ∷ v) h =
    let e : (c == 13) ≡ false = grind arith in
    rw e (ap (λ (x : List ℕ). c ∷ x) (with_lf_same v (grind arith)))

one_kept : (v : List ℕ) → is_blank v ≡ false →
    join_with_byte 10 (without_last_blank (without_first_blank (unindented (v ∷ [])))) ≡ v
one_kept v h = rw (h, h) refl

pub one_value : (v : List ℕ) → list_all (λ c. not (c == 13)) v ≡ true →
    list_any (λ c. c == 10) v ≡ false →
    is_blank (get_or (lines_of v) 0 []) ≡ false → block_string_value v ≡ v
one_value v cr lf f =
    let e = lines_one v lf in
    ap (λ (x : List ℕ). join_with_byte 10 (without_last_blank (without_first_blank (unindented (lines_of x))))) (with_lf_same v cr) ∙
    ap (λ (x : List (List ℕ)). join_with_byte 10 (without_last_blank (without_first_blank (unindented x)))) e ∙
    one_kept v (sym (ap (λ (x : List (List ℕ)). is_blank (get_or x 0 [])) e) ∙ f)
