-- A text that is written in runs: what is passed, and what is still to come.
use Rattle.std.proofs.Common.{◌≡◌, ℕ, ◌+◌, ◌-◌, ◌<◌, ◌≤◌, Bool, true, false, ◌||◌, List, [], ◌∷◌, ◌++◌, length, take, drop, get_or, refl}
use Rattle.std.proofs.Common.{ap, ap₂, sym, ◌∙◌, arith, append_assoc, append-nil, length-drop, take_all, take-append-drop, flat_map}
use Rattle.std.specs.List.{list_any}
use Rattle.std.proofs.lemmas.List.{take_more, flat_map_more}
use Rattle.std.proofs.lemmas.Grind.{common_steps, flat_map-append}

-- from one place of a text to another
abbrev pub run : List ℕ → ℕ → ℕ → List ℕ
run t from i = take (i - from) (drop from t)

pub run_none : (t : List ℕ) (i : ℕ) → run t i i ≡ []
run_none t i = let e : i - i ≡ 0 = omega arith in ap (λ n. take n (drop i t)) e

pub run_more : (t : List ℕ) (from i : ℕ) → from ≤ i → i < length t → run t from (i + 1) ≡ run t from i ++ get_or t i 0 ∷ []
run_more t from i h l =
    let n : i + 1 - from ≡ (i - from) + 1 = omega arith in
    let m = take_more (drop from t) (i - from) 0 (omega (arith, length-drop from t)) in
    let g : get_or (drop from t) (i - from) 0 ≡ get_or t i 0 = grind (arith, common_steps) in
    ap (λ k. take k (drop from t)) n ∙ m ∙ ap (λ c. take (i - from) (drop from t) ++ c ∷ []) g

pub run_rest : (t : List ℕ) (from i : ℕ) → length t ≤ i → run t from i ≡ drop from t
run_rest t from i h = take_all (i - from) (drop from t) (omega (arith, length-drop from t))

pub flat_next : (f : ℕ → List ℕ) (t : List ℕ) (i : ℕ) → i < length t → flat_map f (take (i + 1) t) ≡ flat_map f (take i t) ++ f (get_or t i 0)
flat_next f t i l = ap (flat_map f) (take_more t i 0 l) ∙ sym (flat_map_more f [] (take i t) (get_or t i 0))

-- one more character that stands for itself
pub run_plain : (f : ℕ → List ℕ) (t : List ℕ) (from i : ℕ) → from ≤ i → i < length t → f (get_or t i 0) ≡ get_or t i 0 ∷ [] →
    flat_map f (take i t) ≡ flat_map f (take from t) ++ run t from i →
    flat_map f (take (i + 1) t) ≡ flat_map f (take from t) ++ run t from (i + 1)
run_plain f t from i h l is e =
    flat_next f t i l ∙ ap₂ (λ (x y : List ℕ). x ++ y) e is ∙ append_assoc (flat_map f (take from t)) (run t from i) (get_or t i 0 ∷ [])
    ∙ ap (λ x. flat_map f (take from t) ++ x) (sym (run_more t from i h l))

-- one more character that has an escape
pub run_escape : (f : ℕ → List ℕ) (t escape : List ℕ) (from i : ℕ) → i < length t → escape ≡ f (get_or t i 0) →
    flat_map f (take i t) ≡ flat_map f (take from t) ++ run t from i →
    (flat_map f (take from t) ++ run t from i) ++ escape ≡ flat_map f (take (i + 1) t)
run_escape f t escape from i l is e = ap₂ (λ (x y : List ℕ). x ++ y) (sym e) is ∙ sym (flat_next f t i l)

-- what is taken and what is left, each written out
pub flat_parted : {X : Type 0} (f : X → List ℕ) (xs : List X) (n : ℕ) → flat_map f (take n xs) ++ flat_map f (drop n xs) ≡ flat_map f xs
flat_parted f xs n = sym (flat_map-append f (take n xs) (drop n xs)) ∙ ap (flat_map f) (take-append-drop n xs)

pub run_restart : (f : ℕ → List ℕ) (t : List ℕ) (i : ℕ) → flat_map f (take i t) ≡ flat_map f (take i t) ++ run t i i
run_restart f t i = sym (append-nil (flat_map f (take i t))) ∙ ap (λ x. flat_map f (take i t) ++ x) (sym (run_none t i))

-- where no character has an escape, all stand for themselves
pub flat_plain : (f : ℕ → List ℕ) (test : ℕ → Bool) → ((c : ℕ) → test c ≡ false → f c ≡ c ∷ []) → (t : List ℕ) → list_any test t ≡ false → flat_map f t ≡ t
flat_plain f test is [] e = refl
flat_plain f test is (c ∷ t) e = go (test c) refl (flat_plain f test is t) e
  where
    go : (b : Bool) → test c ≡ b → (list_any test t ≡ false → flat_map f t ≡ t) → (b || list_any test t) ≡ false → f c ++ flat_map f t ≡ c ∷ t
    go true k r e = cc
    go false k r e = ap₂ (λ (x y : List ℕ). x ++ y) (is c k) (r e)
