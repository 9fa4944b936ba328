-- Tests made of tests.
use Rattle.std.proofs.Common.{◌≡◌, Bool, true, false, not, ◌&&◌, ◌||◌, IsTrue, List, [], ◌∷◌, refl, arith}
use Rattle.std.specs.List.{list_all}
use Rattle.std.proofs.lemmas.Bool.{and_right}

pub first_holds : (a b : Bool) → IsTrue (a && b) → IsTrue a
first_holds true b h = refl
first_holds false b h = h

pub second_holds : (a b : Bool) → IsTrue (a && b) → IsTrue b
second_holds true b h = h
second_holds false b h = cc

pub both_hold : (a b : Bool) → IsTrue a → IsTrue b → IsTrue (a && b)
both_hold true b h k = k
both_hold false b h k = h

pub false_of : (b : Bool) → IsTrue (not b) → b ≡ false
false_of true h = cc
false_of false h = refl

pub not_of : (b : Bool) → b ≡ false → IsTrue (not b)
not_of true h = cc
not_of false h = refl

pub all_three : (a b c : Bool) → (a && b && c) ≡ true → (a ≡ true) × (b ≡ true) × (c ≡ true)
all_three a b c e = (first_holds a b (first_holds (a && b) c e), second_holds a b (first_holds (a && b) c e), second_holds (a && b) c e)

pub outer_fail : (a b c : Bool) → (a || b || c) ≡ false → (a ≡ false) × (c ≡ false)
outer_fail a b c h = grind arith

pub and-false : (a : Bool) → (a && false) ≡ false
and-false a = and_right a false refl

pub and-true : (a : Bool) → (a && true) ≡ a
and-true true = refl
and-true false = refl

-- what follows from a test that fails fails
pub is_true : (b c : Bool) → (c ≡ true → b ≡ true) → b ≡ false → c ≡ false
is_true b true h e = let x : b ≡ true = h refl in cc
is_true b false h e = refl

-- a test that holds always holds of all
pub all_hold : {A : Type 0} (parts : List A) → list_all (λ (part : A). true) parts ≡ true
all_hold [] = refl
all_hold (part ∷ more) = all_hold more
