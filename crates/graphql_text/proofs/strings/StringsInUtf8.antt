-- What strings are spelled with is ASCII, so the words on strings mean the same of characters and of their bytes in UTF-8.
use Rattle.std.proofs.Common.{◌≡◌, ℕ, zero, suc, ◌<◌, ◌≤◌, Bool, true, false, not, ◌||◌, ◌&&◌, ◌==◌, if◌then◌else◌, List, [], ◌∷◌, ◌++◌}
use Rattle.std.proofs.Common.{◌⊎◌, inl, inr, map, flat_map, length, get_or, codes, refl, ap, ap₂, sym, ◌∙◌, arith, append-nil, ne_eqb, ◌-◌}
use Rattle.std.proofs.Common.{sub-one, chars, IsUtf8, nat_lt, encode_utf8_all, cond, ◌/◌, ◌%◌, Option, Some, None}
use Rattle.std.specs.List.{list_any, list_all, onto_first, repeat}
use Rattle.std.proofs.lemmas.Bool.Decides.{nat_tests}
use Rattle.std.proofs.Math.Utf8.{encode}
use Rattle.std.proofs.Math.ListN.{get_or-map}
use Rattle.std.proofs.lemmas.List.{length-map}
use Rattle.std.proofs.lemmas.Str.{encodes-append, encode_ascii, encodes-chars}
use Rattle.graphql_text.specs.lexical.Characters.{begins_with, is_space_or_tab, quotes, escaped_quotes}
use Rattle.graphql_text.specs.strings.BlockStringValue.{lines_of, is_blank}
use Rattle.graphql_text.specs.strings.BlockForm.{escape_quotes, begins_unindented, can_be_block, would_join_closing_quotes}
use Rattle.graphql_text.specs.strings.BlockForm.{block_on_one_line, broken_line, block_over_lines, block_form, block_text}
use Rattle.graphql_text.specs.strings.QuotedForm.{upper_hex_digit, written, quoted_character, quoted_form}
use Rattle.graphql_text.specs.layout.Layout.{break_text}
use Rattle.graphql_text.proofs.strings.EscapeQuotesSteps.{escape_here, escape_not_here, one_is_none, two_are_none}
use Rattle.graphql_text.proofs.strings.ThreeQuotesScan.{broken_some}
use Rattle.graphql_text.proofs.reader.StringsRead.{begins_cut}

-- bytes of characters that are not ASCII
abbrev High : List ℕ → Type 0
High [] = Unit {0}
High (b ∷ bs) = (128 ≤ b) × High bs

record HighBytes (bytes : List ℕ) : Type 0 where
  head : ℕ
  tail : List ℕ
  made : bytes ≡ head ∷ tail
  high : 128 ≤ head
  rest : High tail

-- a character's bytes: itself, or none that is ASCII
abbrev Encoded : ℕ → List ℕ → Type 0
Encoded c bytes = ((c < 128) × (bytes ≡ c ∷ [])) ⊎ ((128 ≤ c) × HighBytes bytes)

encoded : (c : ℕ) → Encoded c (encode c)
unfolding encode
encoded c = grind (arith, nat_tests)

no_key : (b k : ℕ) → 128 ≤ b → k < 128 → (b == k) ≡ false
no_key b k h l = ne_eqb b k (λ e. omega arith)

no_blank : (b : ℕ) → 128 ≤ b → is_space_or_tab b ≡ false
no_blank b h = rw (no_key b 32 h (omega arith), no_key b 9 h (omega arith)) refl

-- TESTS

-- a test that answers the same of all that is not ASCII, of each byte or of some byte
all_high : (test : ℕ → Bool) (v : Bool) → ((b : ℕ) → 128 ≤ b → test b ≡ v) → (b : ℕ) (h t : List ℕ) → 128 ≤ b → High h →
    list_all test (b ∷ h ++ t) ≡ (v && list_all test t)
all_high test true is b [] t k r = rw (is b k) refl
all_high test false is b [] t k r = rw (is b k) refl
all_high test true is b (d ∷ h) t k r = rw (is b k) (all_high test true is d h t r.0 r.1)
all_high test false is b (d ∷ h) t k r = rw (is b k) refl

any_high : (test : ℕ → Bool) (v : Bool) → ((b : ℕ) → 128 ≤ b → test b ≡ v) → (b : ℕ) (h t : List ℕ) → 128 ≤ b → High h →
    list_any test (b ∷ h ++ t) ≡ (v || list_any test t)
any_high test true is b [] t k r = rw (is b k) refl
any_high test false is b [] t k r = rw (is b k) refl
any_high test true is b (d ∷ h) t k r = rw (is b k) refl
any_high test false is b (d ∷ h) t k r = rw (is b k) (any_high test false is d h t r.0 r.1)

pub all_bytes : (test : ℕ → Bool) (v : Bool) → ((b : ℕ) → 128 ≤ b → test b ≡ v) → (cs : List ℕ) → list_all test (encode_utf8_all cs) ≡ list_all test cs
all_bytes test v is [] = refl
all_bytes test v is (c ∷ cs) = go (encoded c) (all_bytes test v is cs)
  where
    go : Encoded c (encode c) → list_all test (encode_utf8_all cs) ≡ list_all test cs → list_all test (encode c ++ encode_utf8_all cs) ≡ list_all test (c ∷ cs)
    go (inl (h, e)) r = rw e (ap (λ (b : Bool). test c && b) r)
    go (inr (h, y)) r =
        ap (λ (x : List ℕ). list_all test (x ++ encode_utf8_all cs)) y.made ∙ all_high test v is y.head y.tail (encode_utf8_all cs) y.high y.rest
        ∙ ap₂ (λ (a b : Bool). a && b) (sym (is c h)) r

pub any_bytes : (test : ℕ → Bool) (v : Bool) → ((b : ℕ) → 128 ≤ b → test b ≡ v) → (cs : List ℕ) → list_any test (encode_utf8_all cs) ≡ list_any test cs
any_bytes test v is [] = refl
any_bytes test v is (c ∷ cs) = go (encoded c) (any_bytes test v is cs)
  where
    go : Encoded c (encode c) → list_any test (encode_utf8_all cs) ≡ list_any test cs → list_any test (encode c ++ encode_utf8_all cs) ≡ list_any test (c ∷ cs)
    go (inl (h, e)) r = rw e (ap (λ (b : Bool). test c || b) r)
    go (inr (h, y)) r =
        ap (λ (x : List ℕ). list_any test (x ++ encode_utf8_all cs)) y.made ∙ any_high test v is y.head y.tail (encode_utf8_all cs) y.high y.rest
        ∙ ap₂ (λ (a b : Bool). a || b) (sym (is c h)) r

blank_bytes : (cs : List ℕ) → is_blank (encode_utf8_all cs) ≡ is_blank cs
blank_bytes cs = all_bytes is_space_or_tab false no_blank cs

key_bytes : (k : ℕ) → k < 128 → (cs : List ℕ) → list_any (λ c. c == k) (encode_utf8_all cs) ≡ list_any (λ c. c == k) cs
key_bytes k l cs = any_bytes (λ c. c == k) false (λ b h. no_key b k h l) cs

no_key_bytes : (k : ℕ) → k < 128 → (cs : List ℕ) → list_all (λ c. not (c == k)) (encode_utf8_all cs) ≡ list_all (λ c. not (c == k)) cs
no_key_bytes k l cs = all_bytes (λ c. not (c == k)) true (λ b h. ap not (no_key b k h l)) cs

-- WHAT IS WRITTEN OF EACH CHARACTER

map_high : (f : ℕ → List ℕ) → ((b : ℕ) → 128 ≤ b → f b ≡ b ∷ []) → (h t : List ℕ) → High h → flat_map f (h ++ t) ≡ h ++ flat_map f t
map_high f is [] t r = refl
map_high f is (b ∷ h) t r = rw (is b r.0) (ap (λ (x : List ℕ). b ∷ x) (map_high f is h t r.1))

-- f writes ASCII for ASCII, and all else as it is
pub map_bytes : (f : ℕ → List ℕ) → ((c : ℕ) → c < 128 → encode_utf8_all (f c) ≡ f c) → ((b : ℕ) → 128 ≤ b → f b ≡ b ∷ []) → (cs : List ℕ) →
    flat_map f (encode_utf8_all cs) ≡ encode_utf8_all (flat_map f cs)
map_bytes f low is [] = refl
map_bytes f low is (c ∷ cs) = go (encoded c) (map_bytes f low is cs)
  where
    go : Encoded c (encode c) → flat_map f (encode_utf8_all cs) ≡ encode_utf8_all (flat_map f cs) →
        flat_map f (encode c ++ encode_utf8_all cs) ≡ encode_utf8_all (f c ++ flat_map f cs)
    go (inl (h, e)) r =
        ap (λ (x : List ℕ). flat_map f (x ++ encode_utf8_all cs)) e ∙ ap₂ (λ (x y : List ℕ). x ++ y) (sym (low c h)) r
        ∙ sym (encodes-append (f c) (flat_map f cs))
    go (inr (h, y)) r =
        ap (λ (x : List ℕ). flat_map f (x ++ encode_utf8_all cs)) y.made ∙ map_high f is (y.head ∷ y.tail) (encode_utf8_all cs) (y.high, y.rest)
        ∙ ap₂ (λ (x y : List ℕ). x ++ y) (sym y.made) r ∙ ap (λ (x : List ℕ). encode_utf8_all (x ++ flat_map f cs)) (sym (is c h))

-- QUOTED STRINGS

low_one : (c : ℕ) → c < 128 → encode_utf8_all (c ∷ []) ≡ c ∷ []
low_one c h = rw (encode_ascii c h) refl

low_more : (c : ℕ) (cs : List ℕ) → c < 128 → encode_utf8_all cs ≡ cs → encode_utf8_all (c ∷ cs) ≡ c ∷ cs
low_more c cs h r = ap₂ (λ (x y : List ℕ). x ++ y) (encode_ascii c h) r

low_digit : (d : ℕ) → d < 16 → upper_hex_digit d < 128
low_digit d h = grind (arith, nat_tests)

quoted_low : (c : ℕ) → c < 128 → encode_utf8_all (quoted_character c) ≡ quoted_character c
quoted_low c h =
    by_test ((c == 0x22) || (c == 0x5C)) (Some c) _ (low_more 0x5C (c ∷ []) (omega arith) (low_one c h))
    (by_test (c == 0x8) (Some 0x62) _ (letter 0x62 (omega arith)) (by_test (c == 0xA) (Some 0x6E) _ (letter 0x6E (omega arith))
    (by_test (c == 0xC) (Some 0x66) _ (letter 0x66 (omega arith))
    (by_test (c == 0xD) (Some 0x72) None (letter 0x72 (omega arith)) (plain (nat_lt c 0x20 && not (c == 0x9)))))))
  where
    letter : (d : ℕ) → d < 128 → encode_utf8_all (written c (Some d)) ≡ written c (Some d)
    letter d l = low_more 0x5C (d ∷ []) (omega arith) (low_one d l)

    by_test : (b : Bool) (x y : Option ℕ) → encode_utf8_all (written c x) ≡ written c x → encode_utf8_all (written c y) ≡ written c y →
        encode_utf8_all (written c (cond b x y)) ≡ written c (cond b x y)
    by_test true x y p q = p
    by_test false x y p q = q

    digits : List ℕ
    digits = upper_hex_digit (c / 16) ∷ upper_hex_digit (c % 16) ∷ []

    plain : (b : Bool) → encode_utf8_all (cond b (codes "\\u00" ++ digits) (c ∷ [])) ≡ cond b (codes "\\u00" ++ digits) (c ∷ [])
    plain true =
        low_more 0x5C (0x75 ∷ 0x30 ∷ 0x30 ∷ digits) (omega arith)
        (low_more 0x75 (0x30 ∷ 0x30 ∷ digits) (omega arith)
        (low_more 0x30 (0x30 ∷ digits) (omega arith) (low_more 0x30 digits (omega arith)
        (low_more (upper_hex_digit (c / 16)) (upper_hex_digit (c % 16) ∷ []) (low_digit (c / 16) (omega (arith, h)))
        (low_one (upper_hex_digit (c % 16)) (low_digit (c % 16) (omega arith)))))))
    plain false = low_one c h

quoted_high : (b : ℕ) → 128 ≤ b → quoted_character b ≡ b ∷ []
quoted_high b h = grind (arith, nat_tests)

-- BLOCK STRINGS

abbrev AreLow : List ℕ → Type 0
AreLow [] = Unit {0}
AreLow (p ∷ ps) = (p < 128) × AreLow ps

begins_bytes : (ps cs : List ℕ) → AreLow ps → begins_with ps (encode_utf8_all cs) ≡ begins_with ps cs
begins_bytes [] cs q = refl
begins_bytes (p ∷ ps) [] q = refl
begins_bytes (p ∷ ps) (c ∷ cs) q = go (encoded c) (begins_bytes ps cs q.1)
  where
    go : Encoded c (encode c) → begins_with ps (encode_utf8_all cs) ≡ begins_with ps cs →
        begins_with (p ∷ ps) (encode c ++ encode_utf8_all cs) ≡ begins_with (p ∷ ps) (c ∷ cs)
    go (inl (h, e)) r = rw e (ap (λ (b : Bool). (c == p) && b) r)
    go (inr (h, y)) r = rw (y.made, no_key y.head p y.high q.0, no_key c p h q.0) refl

quotes_bytes : (cs : List ℕ) → begins_with quotes (encode_utf8_all cs) ≡ begins_with quotes cs
quotes_bytes cs = begins_bytes quotes cs (omega arith, (omega arith, (omega arith, tt)))

escape_high : (h t : List ℕ) → High h → escape_quotes (h ++ t) ≡ h ++ escape_quotes t
escape_high [] t h = refl
escape_high (b ∷ bs) t h =
    escape_not_here b (bs ++ t) (rw (no_key b 34 h.0 (omega arith)) refl) ∙ ap (λ (x : List ℕ). b ∷ x) (escape_high bs t h.1)

-- where no `"""` begins, a character's bytes are taken as they are
escape_next : (c : ℕ) (cs : List ℕ) → begins_with quotes (c ∷ cs) ≡ false →
    escape_quotes (encode_utf8_all cs) ≡ encode_utf8_all (escape_quotes cs) →
    escape_quotes (encode_utf8_all (c ∷ cs)) ≡ encode_utf8_all (escape_quotes (c ∷ cs))
escape_next c cs none next =
    go (encoded c) ∙ ap (λ (x : List ℕ). encode c ++ x) next ∙ ap encode_utf8_all (sym (escape_not_here c cs none))
  where
    go : Encoded c (encode c) → escape_quotes (encode c ++ encode_utf8_all cs) ≡ encode c ++ escape_quotes (encode_utf8_all cs)
    go (inl (h, e)) =
        let bytes : begins_with quotes (c ∷ encode_utf8_all cs) ≡ false = rw e at (quotes_bytes (c ∷ cs)) ∙ none in
        rw e (escape_not_here c (encode_utf8_all cs) bytes)
    go (inr (h, y)) = rw y.made (escape_high (y.head ∷ y.tail) (encode_utf8_all cs) (y.high, y.rest))

quotes_are_bytes : (cs : List ℕ) → encode_utf8_all (quotes ++ cs) ≡ quotes ++ encode_utf8_all cs
unfolding encode
quotes_are_bytes cs = refl

escaped_are_bytes : (cs : List ℕ) → encode_utf8_all (escaped_quotes ++ cs) ≡ escaped_quotes ++ encode_utf8_all cs
unfolding encode
escaped_are_bytes cs = refl

escape_bytes : (cs : List ℕ) → escape_quotes (encode_utf8_all cs) ≡ encode_utf8_all (escape_quotes cs)
escape_bytes [] = refl
escape_bytes (a ∷ []) = escape_next a [] (one_is_none a) refl
escape_bytes (a ∷ b ∷ []) = escape_next a (b ∷ []) (two_are_none a b) (escape_bytes (b ∷ []))
escape_bytes (a ∷ b ∷ c ∷ cs) = go (begins_with quotes (a ∷ b ∷ c ∷ cs)) refl (escape_bytes cs) (escape_bytes (b ∷ c ∷ cs))
  where
    go : (x : Bool) → begins_with quotes (a ∷ b ∷ c ∷ cs) ≡ x →
        escape_quotes (encode_utf8_all cs) ≡ encode_utf8_all (escape_quotes cs) →
        escape_quotes (encode_utf8_all (b ∷ c ∷ cs)) ≡ encode_utf8_all (escape_quotes (b ∷ c ∷ cs)) →
        escape_quotes (encode_utf8_all (a ∷ b ∷ c ∷ cs)) ≡ encode_utf8_all (escape_quotes (a ∷ b ∷ c ∷ cs))
    go true e past next =
        ap (λ (x : List ℕ). escape_quotes (encode_utf8_all x)) (begins_cut quotes (a ∷ b ∷ c ∷ cs) e) ∙ ap escape_quotes (quotes_are_bytes cs)
        ∙ ap (λ (x : List ℕ). escaped_quotes ++ x) past ∙ sym (escaped_are_bytes (escape_quotes cs)) ∙ ap encode_utf8_all (sym (escape_here (a ∷ b ∷ c ∷ cs) e))
    go false e past next = escape_next a (b ∷ c ∷ cs) e next

-- lines

on_front : List ℕ → List (List ℕ) → List (List ℕ)
on_front l [] = l ∷ []
on_front l (m ∷ ms) = (l ++ m) ∷ ms

front_lines : (h : List ℕ) (b : ℕ) (t : List ℕ) → 128 ≤ b → High h → lines_of (b ∷ h ++ t) ≡ on_front (b ∷ h) (lines_of t)
unfolding on_front
front_lines [] b t k r = rw (no_key b 10 k (omega arith)) (same (lines_of t))
  where
    same : (ls : List (List ℕ)) → onto_first b ls ≡ on_front (b ∷ []) ls
    same [] = refl
    same (l ∷ ls) = refl
front_lines (d ∷ h) b t k r = rw (no_key b 10 k (omega arith)) (ap (onto_first b) (front_lines h d t r.0 r.1) ∙ same (lines_of t))
  where
    same : (ls : List (List ℕ)) → onto_first b (on_front (d ∷ h) ls) ≡ on_front (b ∷ d ∷ h) ls
    same [] = refl
    same (l ∷ ls) = refl

front_map : (c : ℕ) (ls : List (List ℕ)) → on_front (encode c) (map encode_utf8_all ls) ≡ map encode_utf8_all (onto_first c ls)
unfolding on_front
front_map c [] = ap (λ (x : List ℕ). x ∷ []) (sym (append-nil (encode c)))
front_map c (l ∷ ls) = refl

front_ascii : (c : ℕ) (ls : List (List ℕ)) → c < 128 → onto_first c (map encode_utf8_all ls) ≡ map encode_utf8_all (onto_first c ls)
front_ascii c [] h = rw (encode_ascii c h) refl
front_ascii c (l ∷ ls) h = rw (encode_ascii c h) refl

lines_bytes : (cs : List ℕ) → lines_of (encode_utf8_all cs) ≡ map encode_utf8_all (lines_of cs)
lines_bytes [] = refl
lines_bytes (c ∷ cs) = go (encoded c) (lines_bytes cs)
  where
    ascii : (b : Bool) → (c == 10) ≡ b → c < 128 → lines_of (encode_utf8_all cs) ≡ map encode_utf8_all (lines_of cs) →
        lines_of (c ∷ encode_utf8_all cs) ≡ map encode_utf8_all (lines_of (c ∷ cs))
    ascii true e h r = rw e (ap (λ (x : List (List ℕ)). [] ∷ x) r)
    ascii false e h r = rw e (ap (onto_first c) r ∙ front_ascii c (lines_of cs) h)

    go : Encoded c (encode c) → lines_of (encode_utf8_all cs) ≡ map encode_utf8_all (lines_of cs) →
        lines_of (encode c ++ encode_utf8_all cs) ≡ map encode_utf8_all (lines_of (c ∷ cs))
    go (inl (h, e)) r = rw (encode_ascii c h) (ascii (c == 10) refl h r)
    go (inr (h, y)) r =
        ap (λ (x : List ℕ). lines_of (x ++ encode_utf8_all cs)) y.made ∙ front_lines y.tail y.head (encode_utf8_all cs) y.high y.rest
        ∙ ap₂ on_front (sym y.made) r ∙ front_map c (lines_of cs)
        ∙ sym (ap (λ (b : Bool). map encode_utf8_all (if b then [] ∷ lines_of cs else onto_first c (lines_of cs))) (no_key c 10 h (omega arith)))

unindented_bytes : (cs : List ℕ) → begins_unindented (encode_utf8_all cs) ≡ begins_unindented cs
unindented_bytes [] = refl
unindented_bytes (c ∷ cs) = go (encoded c)
  where
    go : Encoded c (encode c) → begins_unindented (encode c ++ encode_utf8_all cs) ≡ begins_unindented (c ∷ cs)
    go (inl (h, e)) = rw e refl
    go (inr (h, y)) = rw (y.made, no_blank y.head y.high, no_blank c h) refl

any_unindented : (ls : List (List ℕ)) → list_any begins_unindented (map encode_utf8_all ls) ≡ list_any begins_unindented ls
any_unindented [] = refl
any_unindented (l ∷ ls) = ap₂ (λ (a b : Bool). a || b) (unindented_bytes l) (any_unindented ls)

line_bytes : (ls : List (List ℕ)) (i : ℕ) → get_or (map encode_utf8_all ls) i [] ≡ encode_utf8_all (get_or ls i [])
line_bytes ls i = get_or-map encode_utf8_all ls i []

can_be_block_bytes : (cs : List ℕ) → can_be_block (encode_utf8_all cs) ≡ can_be_block cs
can_be_block_bytes cs =
    let ls : List (List ℕ) = lines_of cs in
    let e = lines_bytes cs in
    let at : (i : ℕ) → is_blank (get_or (lines_of (encode_utf8_all cs)) i []) ≡ is_blank (get_or ls i []) =
    λ i. ap (λ (x : List (List ℕ)). is_blank (get_or x i [])) e ∙ ap is_blank (line_bytes ls i) ∙ blank_bytes (get_or ls i []) in
    let n : length (lines_of (encode_utf8_all cs)) ≡ length ls = ap length e ∙ length-map ls encode_utf8_all in
    let b : list_any begins_unindented (lines_of (encode_utf8_all cs)) ≡ list_any begins_unindented ls =
    ap (list_any begins_unindented) e ∙ any_unindented ls in
    rw (no_key_bytes 13 (omega arith) cs, n, at 0, at (length ls - 1), b) refl

-- the block form

record SomeBytes (bytes : List ℕ) : Type 0 where
  head : ℕ
  tail : List ℕ
  made : bytes ≡ head ∷ tail

some_bytes : (c : ℕ) (cs : List ℕ) → SomeBytes (encode_utf8_all (c ∷ cs))
some_bytes c cs = go (encoded c)
  where
    go : Encoded c (encode c) → SomeBytes (encode c ++ encode_utf8_all cs)
    go (inl (h, e)) = record { head = c; tail = encode_utf8_all cs; made = ap (λ (x : List ℕ). x ++ encode_utf8_all cs) e }
    go (inr (h, y)) = record { head = y.head; tail = y.tail ++ encode_utf8_all cs; made = ap (λ (x : List ℕ). x ++ encode_utf8_all cs) y.made }

ends_next : (x y : ℕ) (ys : List ℕ) → would_join_closing_quotes (x ∷ y ∷ ys) ≡ would_join_closing_quotes (y ∷ ys)
ends_next x y ys = rw (sub-one, sub-one) refl

ends_later : (xs : List ℕ) (y : ℕ) (ys : List ℕ) → would_join_closing_quotes (xs ++ y ∷ ys) ≡ would_join_closing_quotes (y ∷ ys)
ends_later [] y ys = refl
ends_later (x ∷ []) y ys = ends_next x y ys
ends_later (x ∷ z ∷ xs) y ys = ends_next x z (xs ++ y ∷ ys) ∙ ends_later (z ∷ xs) y ys

ends_high : (b : ℕ) (h : List ℕ) → 128 ≤ b → High h → would_join_closing_quotes (b ∷ h) ≡ false
ends_high b [] k r = rw (no_key b 34 k (omega arith), no_key b 92 k (omega arith)) refl
ends_high b (d ∷ h) k r = ends_next b d h ∙ ends_high d h r.0 r.1

ends_bytes : (cs : List ℕ) → would_join_closing_quotes (encode_utf8_all cs) ≡ would_join_closing_quotes cs
ends_bytes [] = refl
ends_bytes (c ∷ []) = go (encoded c)
  where
    go : Encoded c (encode c) → would_join_closing_quotes (encode c ++ []) ≡ would_join_closing_quotes (c ∷ [])
    go (inl (h, e)) = rw e refl
    go (inr (h, y)) = ap would_join_closing_quotes (append-nil (encode c) ∙ y.made) ∙ ends_high y.head y.tail y.high y.rest ∙ sym (ends_high c [] h tt)
ends_bytes (c ∷ d ∷ cs) =
    let s = some_bytes d cs in
    ap (λ (x : List ℕ). would_join_closing_quotes (encode c ++ x)) s.made ∙ ends_later (encode c) s.head s.tail
    ∙ ap would_join_closing_quotes (sym s.made) ∙ ends_bytes (d ∷ cs) ∙ sym (ends_next c d cs)

lf_is_byte : encode 10 ≡ 10 ∷ []
unfolding encode
lf_is_byte = refl

on_one_line_bytes : (cs : List ℕ) → block_on_one_line (encode_utf8_all cs) ≡ encode_utf8_all (block_on_one_line cs)
on_one_line_bytes cs =
    ap₂ (λ (a b : List ℕ). quotes ++ (a ++ b)) (escape_bytes cs) (sym (quotes_are_bytes []))
    ∙ ap (λ (x : List ℕ). quotes ++ x) (sym (encodes-append (escape_quotes cs) quotes))
    ∙ sym (quotes_are_bytes (escape_quotes cs ++ quotes))

lf_bytes : (p cs : List ℕ) → 10 ∷ encode_utf8_all p ++ encode_utf8_all cs ≡ encode_utf8_all (10 ∷ p ++ cs)
lf_bytes p cs = rw lf_is_byte (ap (λ (x : List ℕ). 10 ∷ x) (sym (encodes-append p cs)))

broken_bytes : (p l : List ℕ) → broken_line (encode_utf8_all p) (encode_utf8_all l) ≡ encode_utf8_all (broken_line p l)
broken_bytes p [] = rw lf_is_byte refl
broken_bytes p (c ∷ l) =
    broken_some (encode_utf8_all p) (encode_utf8_all (c ∷ l)) (omega (arith, ap length (some_bytes c l).made))
    ∙ ap (λ (x : List ℕ). 10 ∷ encode_utf8_all p ++ x) (escape_bytes (c ∷ l)) ∙ lf_bytes p (escape_quotes (c ∷ l))

all_broken_bytes : (p : List ℕ) (ls : List (List ℕ)) →
    flat_map (broken_line (encode_utf8_all p)) (map encode_utf8_all ls) ≡ encode_utf8_all (flat_map (broken_line p) ls)
all_broken_bytes p [] = refl
all_broken_bytes p (l ∷ ls) =
    ap₂ (λ (a b : List ℕ). a ++ b) (broken_bytes p l) (all_broken_bytes p ls)
    ∙ sym (encodes-append (broken_line p l) (flat_map (broken_line p) ls))

over_lines_bytes : (p cs : List ℕ) → block_over_lines (encode_utf8_all p) (encode_utf8_all cs) ≡ encode_utf8_all (block_over_lines p cs)
over_lines_bytes p cs =
    let body : List ℕ = flat_map (broken_line p) (lines_of cs) in
    let b : flat_map (broken_line (encode_utf8_all p)) (lines_of (encode_utf8_all cs)) ≡ encode_utf8_all body =
    ap (flat_map (broken_line (encode_utf8_all p))) (lines_bytes cs) ∙ all_broken_bytes p (lines_of cs) in
    let e : 10 ∷ encode_utf8_all p ++ quotes ≡ encode_utf8_all (10 ∷ p ++ quotes) =
    ap (λ (x : List ℕ). 10 ∷ encode_utf8_all p ++ x) (sym (quotes_are_bytes [])) ∙ lf_bytes p quotes in
    ap₂ (λ (x y : List ℕ). quotes ++ (x ++ y)) b e ∙ ap (λ (x : List ℕ). quotes ++ x) (sym (encodes-append body (10 ∷ p ++ quotes)))
    ∙ sym (quotes_are_bytes (body ++ (10 ∷ p ++ quotes)))

repeat_bytes : (level : ℕ) (p : List ℕ) → repeat level (encode_utf8_all p) ≡ encode_utf8_all (repeat level p)
repeat_bytes zero p = refl
repeat_bytes (suc level) p = ap (λ (x : List ℕ). encode_utf8_all p ++ x) (repeat_bytes level p) ∙ sym (encodes-append p (repeat level p))

block_form_bytes : (p : List ℕ) (long : Bool) (cs : List ℕ) → block_form (encode_utf8_all p) long (encode_utf8_all cs) ≡ encode_utf8_all (block_form p long cs)
block_form_bytes p long cs = rw (key_bytes 10 (omega arith) cs, ends_bytes cs) (go (list_any (λ c. c == 10) cs || long || would_join_closing_quotes cs))
  where
    go : (b : Bool) →
        (if b then block_over_lines (encode_utf8_all p) (encode_utf8_all cs) else block_on_one_line (encode_utf8_all cs))
        ≡ encode_utf8_all (if b then block_over_lines p cs else block_on_one_line cs)
    go true = over_lines_bytes p cs
    go false = on_one_line_bytes cs

-- OF A TEXT IN UTF-8

pub quoted_in_chars : (bs : List ℕ) → IsUtf8 bs → quoted_form bs ≡ encode_utf8_all (quoted_form (chars bs))
quoted_in_chars bs u =
    let inner : flat_map quoted_character bs ≡ encode_utf8_all (flat_map quoted_character (chars bs)) =
    ap (flat_map quoted_character) (sym (encodes-chars bs u)) ∙ map_bytes quoted_character quoted_low quoted_high (chars bs) in
    ap₂ (λ (a b : List ℕ). a ++ (b ++ a)) (sym (low_one 34 (omega arith))) inner
    ∙ ap (λ (x : List ℕ). encode_utf8_all (34 ∷ []) ++ x) (sym (encodes-append (flat_map quoted_character (chars bs)) (34 ∷ [])))
    ∙ sym (encodes-append (34 ∷ []) (flat_map quoted_character (chars bs) ++ 34 ∷ []))

pub key_in_chars : (k : ℕ) → k < 128 → (bs : List ℕ) → IsUtf8 bs → list_any (λ c. c == k) bs ≡ list_any (λ c. c == k) (chars bs)
key_in_chars k l bs u = ap (list_any (λ c. c == k)) (sym (encodes-chars bs u)) ∙ key_bytes k l (chars bs)

pub can_be_block_in_chars : (bs : List ℕ) → IsUtf8 bs → can_be_block bs ≡ can_be_block (chars bs)
can_be_block_in_chars bs u = ap can_be_block (sym (encodes-chars bs u)) ∙ can_be_block_bytes (chars bs)

pub repeat_in_chars : (level : ℕ) (p : List ℕ) → IsUtf8 p → repeat level p ≡ encode_utf8_all (repeat level (chars p))
repeat_in_chars level p u = ap (repeat level) (sym (encodes-chars p u)) ∙ repeat_bytes level (chars p)

pub break_in_chars : (level : ℕ) (p : List ℕ) → IsUtf8 p → break_text p level ≡ encode_utf8_all (break_text (chars p) level)
break_in_chars level p u = rw lf_is_byte (ap (λ (x : List ℕ). 10 ∷ x) (repeat_in_chars level p u))

pub block_in_chars : (p : List ℕ) (level : ℕ) (v : List ℕ) → IsUtf8 p → IsUtf8 v →
    block_form (repeat level p) (nat_lt 70 (length v)) v ≡ encode_utf8_all (block_text (chars p) level (chars v))
block_in_chars p level v hp hv =
    ap₂ (λ (x y : List ℕ). block_form x (nat_lt 70 (length y)) y) (repeat_in_chars level p hp) (sym (encodes-chars v hv))
    ∙ block_form_bytes (repeat level (chars p)) (nat_lt 70 (length (encode_utf8_all (chars v)))) (chars v)
