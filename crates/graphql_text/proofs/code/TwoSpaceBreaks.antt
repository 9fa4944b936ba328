-- A break under two spaces, with a comma before it or not, is the front of a text of so many bytes.
use Rattle.std.proofs.Common.{◌≡◌, ℕ, ◌+◌, ◌-◌, ◌*◌, ◌≤◌, List, [], ◌∷◌, take, replicate, refl, ap, sym, ◌∙◌, arith, get_or, zero, suc}
use Rattle.std.specs.List.{repeat, slice_range}
use Rattle.std.specs.Str.{IsCharBoundary}
use Rattle.std.proofs.lemmas.Str.{IsCharBoundary-before_ascii}
use Rattle.std.proofs.lemmas.List.{take-replicate, get_or-replicate}
use Rattle.graphql_text.specs.layout.Layout.{break_text}

abbrev break_and_spaces : List ℕ
break_and_spaces = 10 ∷ replicate 63 32

abbrev comma_and_spaces : List ℕ
comma_and_spaces = 44 ∷ 10 ∷ replicate 62 32

two_more : (l : ℕ) → suc (suc (2 * l)) ≡ 2 * suc l
two_more l = omega arith

two_spaces : (l : ℕ) → repeat {A = ℕ} l (32 ∷ 32 ∷ []) ≡ replicate (2 * l) 32
two_spaces zero = refl
two_spaces (suc l) = ap (λ t. 32 ∷ 32 ∷ t) (two_spaces l) ∙ ap (λ n. replicate {A = ℕ} n 32) (two_more l)

spaces_are : (n l : ℕ) → 2 * l ≤ n → take {A = ℕ} (2 * l) (replicate n 32) ≡ repeat l (32 ∷ 32 ∷ [])
spaces_are n l h = take-replicate (2 * l) n 32 h ∙ sym (two_spaces l)

one_more : (n : ℕ) → n + 1 ≡ suc n
one_more n = omega arith

pub is_two_space_break : (l : ℕ) → l ≤ 30 → take (2 * l + 1) break_and_spaces ≡ break_text (32 ∷ 32 ∷ []) l
is_two_space_break l h = ap (λ n. take {A = ℕ} n break_and_spaces) (one_more (2 * l)) ∙ ap (λ t. 10 ∷ t) (spaces_are 63 l (omega (arith, h)))

pub from_front : (s : List ℕ) (n : ℕ) → slice_range s 0 n ≡ take n s
from_front s n =
    let all : n - 0 ≡ n = omega arith in
    ap (λ m. take m s) all

even : (l : ℕ) → 2 * l + 2 ≡ suc (suc (2 * l))
even l = omega arith

pub is_two_space_comma_break : (l : ℕ) → l ≤ 30 → take (2 * l + 2) comma_and_spaces ≡ 44 ∷ break_text (32 ∷ 32 ∷ []) l
is_two_space_comma_break l h = ap (λ n. take {A = ℕ} n comma_and_spaces) (even l) ∙ ap (λ t. 44 ∷ 10 ∷ t) (spaces_are 62 l (omega (arith, h)))

comma_space_at : (l : ℕ) → l ≤ 30 → get_or comma_and_spaces (2 * l + 2) 0 ≡ 32
comma_space_at l h = ap (λ n. get_or comma_and_spaces n 0) (even l) ∙ get_or-replicate 62 (2 * l) 32 0 (omega (arith, h))

pub comma_break_boundary : (l : ℕ) → l ≤ 30 → IsCharBoundary comma_and_spaces (2 * l + 2)
comma_break_boundary l h = IsCharBoundary-before_ascii comma_and_spaces (2 * l + 2) (omega (arith, h)) (omega (arith, comma_space_at l h))

space_at : (l : ℕ) → l ≤ 30 → get_or break_and_spaces (2 * l + 1) 0 ≡ 32
space_at l h = ap (λ n. get_or break_and_spaces n 0) (one_more (2 * l)) ∙ get_or-replicate 63 (2 * l) 32 0 (omega (arith, h))

pub break_boundary : (l : ℕ) → l ≤ 30 → IsCharBoundary break_and_spaces (2 * l + 1)
break_boundary l h = IsCharBoundary-before_ascii break_and_spaces (2 * l + 1) (omega (arith, h)) (omega (arith, space_at l h))
