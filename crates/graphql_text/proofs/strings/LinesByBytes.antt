-- The first line of a text, the last one and those that are not indented, told byte by byte.
use Rattle.std.proofs.Common.{◌≡◌, ℕ, ◌-◌, ◌<◌, Bool, true, false, cond, not, ◌||◌, ◌&&◌, ◌==◌, List, [], ◌∷◌, ◌++◌, length, get_or, refl, ap, ◌∙◌}
use Rattle.std.proofs.Common.{arith, suc}
use Rattle.std.specs.List.{list_any, onto_first}
use Rattle.std.proofs.lemmas.List.Splits.{length-slice_split}
use Rattle.graphql_text.specs.lexical.Characters.{is_space_or_tab}
use Rattle.graphql_text.specs.strings.BlockStringValue.{is_blank, lines_of}
use Rattle.graphql_text.specs.strings.BlockForm.{begins_unindented}

-- whether the first line is blank
abbrev pub first_blank : List ℕ → Bool
first_blank [] = true
first_blank (c ∷ cs) = (c == 0xA) || (is_space_or_tab c && first_blank cs)

pub first_line : (cs : List ℕ) → is_blank (get_or (lines_of cs) 0 []) ≡ first_blank cs
first_line [] = refl
first_line (c ∷ cs) = go (c == 0xA) (lines_of cs) (first_line cs)
  where
    go : (lf : Bool) (ls : List (List ℕ)) → is_blank (get_or ls 0 []) ≡ first_blank cs →
        is_blank (get_or (cond lf ([] ∷ ls) (onto_first c ls)) 0 []) ≡ (lf || (is_space_or_tab c && first_blank cs))
    go true ls e = refl
    go false [] e = ap (λ b. is_space_or_tab c && b) e
    go false (l ∷ ls) e = ap (λ b. is_space_or_tab c && b) e

-- whether some line is not indented, where the text begins a line or goes on with one
abbrev pub some_unindented : Bool → List ℕ → Bool
some_unindented start [] = false
some_unindented start (c ∷ cs) = cond (c == 0xA) (some_unindented true cs) ((start && not (is_space_or_tab c)) || some_unindented false cs)

abbrev unindented_of : Bool → List (List ℕ) → Bool
unindented_of start [] = false
unindented_of start (l ∷ ls) = (start && begins_unindented l) || list_any begins_unindented ls

unindented_parts : (start : Bool) (cs : List ℕ) → unindented_of start (lines_of cs) ≡ some_unindented start cs
unindented_parts true [] = refl
unindented_parts false [] = refl
unindented_parts start (c ∷ cs) = go start (c == 0xA) (lines_of cs) (unindented_parts true cs) (unindented_parts false cs)
  where
    go : (b lf : Bool) (ls : List (List ℕ)) → unindented_of true ls ≡ some_unindented true cs → unindented_of false ls ≡ some_unindented false cs →
        unindented_of b (cond lf ([] ∷ ls) (onto_first c ls)) ≡ cond lf (some_unindented true cs) ((b && not (is_space_or_tab c)) || some_unindented false cs)
    go true true [] e f = e
    go true true (l ∷ ls) e f = e
    go false true [] e f = e
    go false true (l ∷ ls) e f = e
    go b false [] e f = ap (λ some. (b && not (is_space_or_tab c)) || some) f
    go b false (l ∷ ls) e f = ap (λ some. (b && not (is_space_or_tab c)) || some) f

pub unindented_lines : (cs : List ℕ) → list_any begins_unindented (lines_of cs) ≡ some_unindented true cs
unindented_lines cs = whole (lines_of cs) ∙ unindented_parts true cs
  where
    whole : (ls : List (List ℕ)) → list_any begins_unindented ls ≡ unindented_of true ls
    whole [] = refl
    whole (l ∷ ls) = refl

-- one byte further, where no line was found to begin unindented
pub unindented_next : (start : Bool) (c : ℕ) (cs : List ℕ) → (start && (not (c == 0xA) && not (is_space_or_tab c))) ≡ false →
    some_unindented start (c ∷ cs) ≡ some_unindented (c == 0xA) cs
unindented_next start c cs = go start (c == 0xA) (is_space_or_tab c)
  where
    go : (b lf blank : Bool) → (b && (not lf && not blank)) ≡ false →
        cond lf (some_unindented true cs) ((b && not blank) || some_unindented false cs) ≡ some_unindented lf cs
    go b true blank e = refl
    go true false true e = refl
    go true false false e = cc
    go false false blank e = refl

pub unindented_found : (start : Bool) (c : ℕ) (cs : List ℕ) → (start && (not (c == 0xA) && not (is_space_or_tab c))) ≡ true →
    some_unindented start (c ∷ cs) ≡ true
unindented_found start c cs = go start (c == 0xA) (is_space_or_tab c)
  where
    go : (b lf blank : Bool) → (b && (not lf && not blank)) ≡ true →
        cond lf (some_unindented true cs) ((b && not blank) || some_unindented false cs) ≡ true
    go true true blank e = cc
    go true false true e = cc
    go true false false e = refl
    go false lf blank e = cc

-- whether the last line is blank, where what stands before the text on its first line is
abbrev pub blank_after : Bool → List ℕ → Bool
blank_after b [] = b
blank_after b (c ∷ cs) = blank_after ((c == 0xA) || (b && is_space_or_tab c)) cs

abbrev last_of : Bool → List (List ℕ) → Bool
last_of b [] = b
last_of b (l ∷ []) = b && is_blank l
last_of b (l ∷ m ∷ ms) = last_of true (m ∷ ms)

last_parts : (b : Bool) (cs : List ℕ) → last_of b (lines_of cs) ≡ blank_after b cs
last_parts true [] = refl
last_parts false [] = refl
last_parts b (c ∷ cs) = go b (c == 0xA) (lines_of cs) (omega (arith, length-slice_split (λ x. x == 0xA) cs)) (λ after. last_parts after cs)
  where
    go : (b lf : Bool) (ls : List (List ℕ)) → 0 < length ls → ((after : Bool) → last_of after ls ≡ blank_after after cs) →
        last_of b (cond lf ([] ∷ ls) (onto_first c ls)) ≡ blank_after (lf || (b && is_space_or_tab c)) cs
    go b lf [] some e = absurd (omega arith)
    go b true (m ∷ ms) some e = e true
    go true false (l ∷ []) some e = e (is_space_or_tab c)
    go false false (l ∷ []) some e = e false
    go b false (l ∷ m ∷ ms) some e = e (b && is_space_or_tab c)

pub last_line : (cs : List ℕ) → is_blank (get_or (lines_of cs) (length (lines_of cs) - 1) []) ≡ blank_after true cs
last_line cs = whole (lines_of cs) (omega (arith, length-slice_split (λ x. x == 0xA) cs)) ∙ last_parts true cs
  where
    whole : (ls : List (List ℕ)) → 0 < length ls → is_blank (get_or ls (length ls - 1) []) ≡ last_of true ls
    whole [] some = absurd (omega arith)
    whole (l ∷ []) some = refl
    whole (l ∷ m ∷ ms) some =
        let here : length (l ∷ m ∷ ms) - 1 ≡ suc (length (m ∷ ms) - 1) = omega arith in
        ap (λ n. is_blank (get_or (l ∷ m ∷ ms) n [])) here ∙ whole (m ∷ ms) (omega arith)

pub last_push : (b : Bool) (cs : List ℕ) (c : ℕ) → blank_after b (cs ++ c ∷ []) ≡ ((c == 0xA) || (blank_after b cs && is_space_or_tab c))
last_push b [] c = refl
last_push b (d ∷ cs) c = last_push ((d == 0xA) || (b && is_space_or_tab d)) cs c

pub ruled_out : (plain first last some : Bool) → (last || first) ≡ true → (((plain && not first) && not last) && some) ≡ false
ruled_out true true last some e = refl
ruled_out true false true some e = refl
ruled_out true false false some e = cc
ruled_out false first last some e = refl

pub left_over : (plain first last some : Bool) → (last || first) ≡ false → (((plain && not first) && not last) && some) ≡ (plain && some)
left_over true true true some e = cc
left_over true true false some e = cc
left_over true false true some e = cc
left_over true false false some e = refl
left_over false first last some e = refl

-- what loops over the bytes of a text cite
pub ruleset last_line_steps = (last_line, last_push)

pub ruleset unindented_steps = (unindented_lines, unindented_found)
