-- A test of the bytes of a text that goes piece by piece.
use Rattle.std.proofs.Common.{◌≡◌, ℕ, ◌+◌, ◌-◌, ◌≤◌, Bool, true, false, ◌||◌, List, take, drop, refl, ap, ap₂, sym, ◌∙◌, arith, take-append-drop}
use Rattle.std.specs.List.{list_any, slice_range}
use Rattle.std.proofs.Math.Seq.{take-add}
use Rattle.std.proofs.lemmas.List.Folds.{list_any-append}

or_true : (b : Bool) → (b || true) ≡ true
or_true true = refl
or_true false = refl

or_false : (a b : Bool) → (a || b) ≡ false → a ≡ false
or_false true b e = e
or_false false b e = refl

any_parted : (test : ℕ → Bool) (xs : List ℕ) (n : ℕ) → list_any test xs ≡ (list_any test (take n xs) || list_any test (drop n xs))
any_parted test xs n = sym (ap (list_any test) (take-append-drop n xs)) ∙ list_any-append test (take n xs) (drop n xs)

any_taken : (test : ℕ → Bool) (xs : List ℕ) (i n : ℕ) → list_any test (take (i + n) xs) ≡ (list_any test (take i xs) || list_any test (take n (drop i xs)))
any_taken test xs i n = ap (list_any test) (take-add i n xs) ∙ list_any-append test (take i xs) (take n (drop i xs))

piece_is : (xs : List ℕ) (i n : ℕ) → slice_range xs i (i + n) ≡ take n (drop i xs)
piece_is xs i n = let e : i + n - i ≡ n = omega arith in ap (λ k. take k (drop i xs)) e

-- one more piece has none
pub none_passed : (test : ℕ → Bool) (xs : List ℕ) (i n : ℕ) → list_any test (take i xs) ≡ false →
    list_any test (slice_range xs i (i + n)) ≡ false → list_any test (take (i + n) xs) ≡ false
none_passed test xs i n before here =
    any_taken test xs i n ∙ ap₂ (λ a b. a || b) before (sym (ap (list_any test) (piece_is xs i n)) ∙ here)

-- a piece has one
pub one_found : (test : ℕ → Bool) (xs : List ℕ) (i n : ℕ) → list_any test (slice_range xs i (i + n)) ≡ true → list_any test xs ≡ true
one_found test xs i n here =
    let there : list_any test (drop i xs) ≡ true =
    any_parted test (drop i xs) n
    ∙ ap (λ b. b || list_any test (drop n (drop i xs))) (sym (ap (list_any test) (piece_is xs i n)) ∙ here) in
    any_parted test xs i ∙ ap (λ b. list_any test (take i xs) || b) there ∙ or_true (list_any test (take i xs))

-- where none was passed, the last piece decides, though some of it was passed
pub last_decides : (test : ℕ → Bool) (xs : List ℕ) (last i : ℕ) → last ≤ i → list_any test (take i xs) ≡ false → list_any test (drop last xs) ≡ list_any test xs
last_decides test xs last i h before =
    let e : i ≡ last + (i - last) = omega arith in
    let parted = sym (any_taken test xs last (i - last)) ∙ ap (λ k. list_any test (take k xs)) (sym e) ∙ before in
    let front = or_false (list_any test (take last xs)) (list_any test (take (i - last) (drop last xs))) parted in
    sym (any_parted test xs last ∙ ap (λ b. b || list_any test (drop last xs)) front)
