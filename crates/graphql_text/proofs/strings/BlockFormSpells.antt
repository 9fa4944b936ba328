-- The block form of a value, under a prefix of spaces and tabs, is a spelling of that value.
use Rattle.std.proofs.Common.{◌≡◌, ℕ, zero, suc, ◌-◌, Bool, true, false, not, ◌&&◌, ◌||◌, ◌==◌, if◌then◌else◌, List, [], ◌∷◌, ◌++◌, codes}
use Rattle.std.proofs.Common.{flat_map, length, get_or, arith, refl, ap, sym, subst, ◌∙◌, append_assoc, append-nil, eqb-true}
use Rattle.std.specs.List.{list_any, list_all, repeat}
use Rattle.graphql_base.specs.Names.{begins_in}
use Rattle.graphql_text.specs.lexical.Characters.{is_space_or_tab, is_quote, quotes, escaped_quotes, begins_with}
use Rattle.graphql_text.specs.strings.BlockStringValue.{lines_of, is_blank}
use Rattle.graphql_text.specs.strings.Strings.{IsBlockRest, closing, escaped, itself, IsBlock}
use Rattle.graphql_text.specs.strings.BlockForm.{escape_quotes, begins_unindented, can_be_block, would_join_closing_quotes, broken_line}
use Rattle.graphql_text.specs.strings.BlockForm.{block_on_one_line, block_over_lines, block_form}
use Rattle.std.proofs.lemmas.Bool.{and_parts}
use Rattle.graphql_text.proofs.general.BooleanTests.{all_three, outer_fail, and-false}
use Rattle.graphql_text.proofs.strings.BlockFormValue.{raw_line, raw_lines, plain_space, many_value, one_value}

-- no `"` at the front
abbrev Stops : List ℕ → Type 0
Stops text = begins_in is_quote text ≡ false

-- a character that isn't `"` is never escaped
escape_other : (c : ℕ) (l : List ℕ) → is_quote c ≡ false →
    escape_quotes (c ∷ l) ≡ c ∷ escape_quotes l
escape_other c [] h = refl
escape_other c (d ∷ []) h = refl
escape_other c (d ∷ e ∷ l) h = rw h refl

-- nor is one before such a character
escape_before_other : (c d : ℕ) (l : List ℕ) → is_quote d ≡ false →
    escape_quotes (c ∷ d ∷ l) ≡ c ∷ d ∷ escape_quotes l
escape_before_other c d [] h = refl
escape_before_other c d (e ∷ l) h = go (is_quote c)
  where
    go : (b : Bool) →
        (if b && is_quote d && is_quote e then escaped_quotes ++ escape_quotes l else c ∷ escape_quotes (d ∷ e ∷ l)) ≡ c ∷ d ∷ escape_quotes (e ∷ l)
    go true = rw h (ap (λ (t : List ℕ). c ∷ t) (escape_other d (e ∷ l) h))
    go false = ap (λ (t : List ℕ). c ∷ t) (escape_other d (e ∷ l) h)

-- three characters of which one isn't `"` don't become `"""`
stay_apart : (a b c : ℕ) (l t : List ℕ) → (is_quote a && is_quote b && is_quote c) ≡ false →
    begins_with quotes (a ∷ (escape_quotes (b ∷ c ∷ l) ++ t)) ≡ false
stay_apart a b c l t h = go (is_quote a) (is_quote b) (is_quote c) refl refl refl h
  where
    go : (x y z : Bool) → is_quote a ≡ x → is_quote b ≡ y → is_quote c ≡ z → (x && y && z) ≡ false →
        begins_with quotes (a ∷ (escape_quotes (b ∷ c ∷ l) ++ t)) ≡ false
    go false y z p q r h = rw p refl
    go true false z p q r h =
        ap (λ (s : List ℕ). begins_with quotes (a ∷ (s ++ t))) (escape_other b (c ∷ l) q)
        ∙ rw (p, q) refl
    go true true false p q r h =
        ap (λ (s : List ℕ). begins_with quotes (a ∷ (s ++ t))) (escape_before_other b c l r)
        ∙ rw (p, q, r) refl
    go true true true p q r h = cc

no_quotes : (t : List ℕ) → Stops t → begins_with quotes t ≡ false
no_quotes [] s = refl
no_quotes (c ∷ t) s = rw s refl

one_before : (a : ℕ) (t : List ℕ) → Stops t → begins_with quotes (a ∷ t) ≡ false
one_before a [] s = and-false (is_quote a)
one_before a (c ∷ t) s = rw s (and-false (is_quote a))

two_before : (a b : ℕ) (t : List ℕ) → Stops t → begins_with quotes (a ∷ b ∷ t) ≡ false
two_before a b t s = ap (λ x. is_quote a && x) (row_more b t s) ∙ and-false (is_quote a)
  where
    row_more : (b : ℕ) (t : List ℕ) → Stops t → begins_with (codes "\"\"") (b ∷ t) ≡ false
    row_more b [] s = and-false (is_quote b)
    row_more b (c ∷ t) s = rw s (and-false (is_quote b))

-- what was escaped begins with no `"""`
none_escaped : (l t : List ℕ) → Stops t → begins_with quotes (escape_quotes l ++ t) ≡ false
none_escaped [] t s = no_quotes t s
none_escaped (a ∷ []) t s = one_before a t s
none_escaped (a ∷ b ∷ []) t s = two_before a b t s
none_escaped (a ∷ b ∷ c ∷ l) t s = go (is_quote a && is_quote b && is_quote c) refl
  where
    go : (x : Bool) → (is_quote a && is_quote b && is_quote c) ≡ x →
        begins_with quotes ((if x then escaped_quotes ++ escape_quotes l else a ∷ escape_quotes (b ∷ c ∷ l)) ++ t) ≡ false
    go true h = refl
    go false h = stay_apart a b c l t h

no_escape_before : (a : ℕ) (t : List ℕ) → begins_with quotes t ≡ false →
    begins_with escaped_quotes (a ∷ t) ≡ false
no_escape_before a t h = rw h (and-false (a == 0x5C))

-- a text that is escaped stands for itself
escaped_rest : (l t raw : List ℕ) → Stops t → IsBlockRest t raw →
    IsBlockRest (escape_quotes l ++ t) (l ++ raw)
escaped_rest [] t raw s r = r
escaped_rest (a ∷ []) t raw s r = itself (one_before a t s) (no_escape_before a t (no_quotes t s)) r
escaped_rest (a ∷ b ∷ []) t raw s r =
    itself (two_before a b t s) (no_escape_before a (b ∷ t) (one_before b t s)) (itself (one_before b t s) (no_escape_before b t (no_quotes t s)) r)
escaped_rest (a ∷ b ∷ c ∷ l) t raw s r =
    go (is_quote a && is_quote b && is_quote c) refl (escaped_rest l t raw s r) (escaped_rest (b ∷ c ∷ l) t raw s r)
  where
    go : (x : Bool) → (is_quote a && is_quote b && is_quote c) ≡ x →
        IsBlockRest (escape_quotes l ++ t) (l ++ raw) →
        IsBlockRest (escape_quotes (b ∷ c ∷ l) ++ t) (b ∷ c ∷ (l ++ raw)) →
        IsBlockRest ((if x then escaped_quotes ++ escape_quotes l else a ∷ escape_quotes (b ∷ c ∷ l)) ++ t) (a ∷ b ∷ c ∷ (l ++ raw))
    go true h past next =
        let (p, q, r) = all_three (is_quote a) (is_quote b) (is_quote c) h in
        let same : a ∷ b ∷ c ∷ (l ++ raw) ≡ quotes ++ (l ++ raw) = cc (eqb-true a 0x22 p, eqb-true b 0x22 q, eqb-true c 0x22 r) in
        subst (IsBlockRest (escaped_quotes ++ (escape_quotes l ++ t))) (sym same) (escaped past)
    go false h past next =
        itself (stay_apart a b c l t h) (no_escape_before a (escape_quotes (b ∷ c ∷ l) ++ t) (none_escaped (b ∷ c ∷ l) t s)) next

-- a character that is neither `"` nor `\` stands for itself, whatever follows
itself_plain : (c : ℕ) (t raw : List ℕ) → is_quote c ≡ false → (c == 0x5C) ≡ false →
    IsBlockRest t raw → IsBlockRest (c ∷ t) (c ∷ raw)
itself_plain c t raw no_quote no_backslash r = itself (rw no_quote refl) (rw no_backslash refl) r

-- The form on one line.

escape_last : (w : List ℕ) (z : ℕ) → is_quote z ≡ false →
    escape_quotes (w ++ z ∷ []) ≡ escape_quotes w ++ z ∷ []
escape_last [] z q = refl
escape_last (a ∷ []) z q = refl
escape_last (a ∷ b ∷ []) z q = go (is_quote a) (is_quote b)
  where
    go : (x y : Bool) →
        (if x && y && is_quote z then escaped_quotes else a ∷ b ∷ z ∷ []) ≡ a ∷ b ∷ z ∷ []
    go true true = rw q refl
    go true false = refl
    go false y = refl
escape_last (a ∷ b ∷ c ∷ w) z q =
    go (is_quote a && is_quote b && is_quote c) (escape_last w z q) (escape_last (b ∷ c ∷ w) z q)
  where
    go : (x : Bool) → escape_quotes (w ++ z ∷ []) ≡ escape_quotes w ++ z ∷ [] →
        escape_quotes (b ∷ c ∷ (w ++ z ∷ [])) ≡ escape_quotes (b ∷ c ∷ w) ++ z ∷ [] →
        (if x then escaped_quotes ++ escape_quotes (w ++ z ∷ []) else a ∷ escape_quotes (b ∷ c ∷ (w ++ z ∷ [])))
        ≡ (if x then escaped_quotes ++ escape_quotes w else a ∷ escape_quotes (b ∷ c ∷ w)) ++ z ∷ []
    go true past next = ap (λ (l : List ℕ). escaped_quotes ++ l) past
    go false past next = ap (λ (l : List ℕ). a ∷ l) next

-- a text that isn't empty, cut before its last character
split_last : (c : ℕ) (l : List ℕ) →
    (w : List ℕ) × (z : ℕ) × (c ∷ l ≡ w ++ z ∷ []) × (get_or (c ∷ l) (length l) 0 ≡ z)
split_last c [] = ([], c, refl, refl)
split_last c (d ∷ l) =
    let (w, z, is, last) = split_last d l in (c ∷ w, z, ap (λ (x : List ℕ). c ∷ x) is, last)

escaped_closed : (v : List ℕ) → would_join_closing_quotes v ≡ false →
    IsBlockRest (escape_quotes v ++ quotes) v
escaped_closed [] h = closing
escaped_closed (c ∷ l) h = go (split_last c l)
  where
    last_is : get_or (c ∷ l) (length (c ∷ l) - 1) 0 ≡ get_or (c ∷ l) (length l) 0
    last_is = ap (λ n. get_or (c ∷ l) n 0) (omega arith)

    neither : (a b : Bool) → (a || b) ≡ false → (a ≡ false) × (b ≡ false)
    neither true b e = cc
    neither false b e = (refl, e)

    go : ((w : List ℕ) × (z : ℕ) × (c ∷ l ≡ w ++ z ∷ []) × (get_or (c ∷ l) (length l) 0 ≡ z)) →
        IsBlockRest (escape_quotes (c ∷ l) ++ quotes) (c ∷ l)
    go (w, z, is, last) =
        let (q, b) = neither (is_quote z) (z == 0x5C) (ap (λ x. is_quote x || (x == 0x5C)) (sym (last_is ∙ last)) ∙ h) in
        let whole : IsBlockRest (escape_quotes w ++ (z ∷ quotes)) (w ++ z ∷ []) =
        escaped_rest w (z ∷ quotes) (z ∷ []) q (itself_plain z quotes [] q b closing) in
        let texts : escape_quotes w ++ (z ∷ quotes) ≡ escape_quotes (w ++ z ∷ []) ++ quotes =
        sym (append_assoc (escape_quotes w) (z ∷ []) quotes) ∙ ap (λ (x : List ℕ). x ++ quotes) (sym (escape_last w z q)) in
        subst (λ (x : List ℕ). IsBlockRest (escape_quotes x ++ quotes) x) (sym is) (subst (λ (x : List ℕ). IsBlockRest x (w ++ z ∷ [])) texts whole)

-- The form over lines.

blank_rest : (p t raw : List ℕ) → is_blank p ≡ true → IsBlockRest t raw →
    IsBlockRest (p ++ t) (p ++ raw)
blank_rest [] t raw h r = r
blank_rest (c ∷ p) t raw h r =
    let (first, more) = and_parts (is_space_or_tab c) (is_blank p) h in
    let plain = plain_space c first in
    itself_plain c (p ++ t) (p ++ raw) plain.0 plain.1 (blank_rest p t raw more r)

line_rest : (p l t raw : List ℕ) → is_blank p ≡ true → Stops t → IsBlockRest t raw →
    IsBlockRest (broken_line p l ++ t) (raw_line p l ++ raw)
line_rest p [] t raw h s r = itself_plain 0xA t raw refl refl r
line_rest p (c ∷ l) t raw h s r =
    let texts : (p ++ escape_quotes (c ∷ l)) ++ t ≡ p ++ (escape_quotes (c ∷ l) ++ t) = append_assoc p (escape_quotes (c ∷ l)) t in
    let raws : (p ++ c ∷ l) ++ raw ≡ p ++ (c ∷ l ++ raw) = append_assoc p (c ∷ l) raw in
    let line = blank_rest p (escape_quotes (c ∷ l) ++ t) (c ∷ l ++ raw) h (escaped_rest (c ∷ l) t raw s r) in
    itself_plain 0xA ((p ++ escape_quotes (c ∷ l)) ++ t) ((p ++ c ∷ l) ++ raw) refl refl
    (subst (λ (x : List ℕ). IsBlockRest x ((p ++ c ∷ l) ++ raw)) (sym texts) (subst (IsBlockRest (p ++ (escape_quotes (c ∷ l) ++ t))) (sym raws) line))

lines_stop : (p : List ℕ) (ls : List (List ℕ)) (t : List ℕ) → Stops t →
    Stops (flat_map (broken_line p) ls ++ t)
lines_stop p [] t s = s
lines_stop p ([] ∷ ls) t s = refl
lines_stop p ((c ∷ l) ∷ ls) t s = refl

lines_rest : (p : List ℕ) (ls : List (List ℕ)) (t raw : List ℕ) → is_blank p ≡ true → Stops t →
    IsBlockRest t raw →
    IsBlockRest (flat_map (broken_line p) ls ++ t) (flat_map (raw_line p) ls ++ raw)
lines_rest p [] t raw h s r = r
lines_rest p (l ∷ ls) t raw h s r =
    let more : IsBlockRest (flat_map (broken_line p) ls ++ t) (flat_map (raw_line p) ls ++ raw) = lines_rest p ls t raw h s r in
    subst (λ (x : List ℕ). IsBlockRest x (flat_map (raw_line p) (l ∷ ls) ++ raw)) (sym (append_assoc (broken_line p l) (flat_map (broken_line p) ls) t))
    (subst (IsBlockRest (broken_line p l ++ (flat_map (broken_line p) ls ++ t))) (sym (append_assoc (raw_line p l) (flat_map (raw_line p) ls) raw))
    (line_rest p l (flat_map (broken_line p) ls ++ t) (flat_map (raw_line p) ls ++ raw) h (lines_stop p ls t s) more))

over_lines_rest : (p : List ℕ) (ls : List (List ℕ)) → is_blank p ≡ true →
    IsBlockRest (flat_map (broken_line p) ls ++ (0xA ∷ p ++ quotes)) (raw_lines p ls)
over_lines_rest p ls h =
    let end : IsBlockRest (0xA ∷ p ++ quotes) (0xA ∷ p) =
    itself_plain 0xA (p ++ quotes) p refl refl (subst (IsBlockRest (p ++ quotes)) (append-nil p) (blank_rest p quotes [] h closing)) in
    lines_rest p ls (0xA ∷ p ++ quotes) (0xA ∷ p) h refl end

-- Both forms.

conditions : (a b c d : Bool) → (a && not b && not c && d) ≡ true →
    (a ≡ true) × (b ≡ false) × (c ≡ false) × (d ≡ true)
conditions a b c d h = grind arith

over_lines_is : (p v : List ℕ) → is_blank p ≡ true → can_be_block v ≡ true →
    IsBlock (block_over_lines p v) v
over_lines_is p v h k =
    let ls = lines_of v in
    let (cr, first, last, bare) =
    conditions (list_all (λ c. not (c == 0xD)) v) (is_blank (get_or ls 0 [])) (is_blank (get_or ls (length ls - 1) []))
    (list_any begins_unindented ls) k in
    (flat_map (broken_line p) ls ++ (0xA ∷ p ++ quotes), raw_lines p ls, refl, over_lines_rest p ls h, sym (many_value p v h cr first last bare))

on_one_line_is : (v : List ℕ) → can_be_block v ≡ true → list_any (λ c. c == 0xA) v ≡ false →
    would_join_closing_quotes v ≡ false → IsBlock (block_on_one_line v) v
on_one_line_is v k lf open_end =
    let ls = lines_of v in
    let (cr, first, last, bare) =
    conditions (list_all (λ c. not (c == 0xD)) v) (is_blank (get_or ls 0 [])) (is_blank (get_or ls (length ls - 1) []))
    (list_any begins_unindented ls) k in
    (escape_quotes v ++ quotes, v, refl, escaped_closed v open_end, sym (one_value v cr lf first))

blank_append : (p l : List ℕ) → is_blank p ≡ true → is_blank l ≡ true → is_blank (p ++ l) ≡ true
blank_append [] l h k = k
blank_append (c ∷ p) l h k =
    let r : is_blank (p ++ l) ≡ true = blank_append p l (grind arith) k in grind arith

pub blank_repeat : (level : ℕ) (p : List ℕ) → is_blank p ≡ true → is_blank (repeat level p) ≡ true
blank_repeat zero p h = refl
blank_repeat (suc level) p h = blank_append p (repeat level p) h (blank_repeat level p h)

pub block_form_is : (prefix : List ℕ) (level : ℕ) (long : Bool) (value : List ℕ) →
    is_blank prefix ≡ true → can_be_block value ≡ true →
    IsBlock (block_form (repeat level prefix) long value) value
block_form_is prefix level long value h k =
    go (list_any (λ c. c == 0xA) value || long || would_join_closing_quotes value) refl
  where
    go : (b : Bool) →
        (list_any (λ c. c == 0xA) value || long || would_join_closing_quotes value) ≡ b →
        IsBlock (if b then block_over_lines (repeat level prefix) value else block_on_one_line value) value
    go true e = over_lines_is (repeat level prefix) value (blank_repeat level prefix h) k
    go false e =
        let (lf, open_end) = outer_fail (list_any (λ c. c == 0xA) value) long (would_join_closing_quotes value) e in on_one_line_is value k lf open_end
