-- The laws of `laid`: it goes item by item, and only the level counts.
use Rattle.std.proofs.Common.{length, ◌≡◌, ℕ, suc, ◌+◌, ◌-◌, List, [], ◌∷◌, ◌++◌, Option, None, Some, refl, ap, sym, ◌∙◌, append_assoc}
use Rattle.std.proofs.Common.{arith, append-nil, zero, ◌<◌, add-one}
use Rattle.std.specs.List.{repeat}
use Rattle.graphql_text.specs.layout.Layout.{Item, Word, StringItem, StringRole, OnOneLine, Space, Comma, Soft, Tight, Blank, Finish, Raise}
use Rattle.graphql_text.specs.layout.Layout.{Lower, flat, flat_item, string_text, item_text, raises, raises_at, lowers, lowers_at}
use Rattle.graphql_text.specs.layout.Layout.{text_of_items}

pub raises_append : (xs ys : List Item) → raises (xs ++ ys) ≡ raises xs + raises ys
unfolding raises
raises_append [] ys = omega arith
raises_append (x ∷ xs) ys = omega (arith, raises_append xs ys)

pub lowers_append : (xs ys : List Item) → lowers (xs ++ ys) ≡ lowers xs + lowers ys
unfolding lowers
lowers_append [] ys = omega arith
lowers_append (x ∷ xs) ys = omega (arith, lowers_append xs ys)

-- laid depends on the numbers only by the level
pub laid_level : (mode : Option (List ℕ)) (s r l s' r' l' : ℕ) (xs : List Item) → s + r + l' ≡ s' + r' + l →
    text_of_items mode s r l xs ≡ text_of_items mode s' r' l' xs
unfolding text_of_items
laid_level mode s r l s' r' l' [] e = refl
laid_level mode s r l s' r' l' (x ∷ xs) e =
    let here : s + r - l ≡ s' + r' - l' = omega arith in
    let rest = laid_level mode s (r + raises_at x) (l + lowers_at x) s' (r' + raises_at x) (l' + lowers_at x) xs (omega arith) in
    ap (λ v. item_text mode v x ++ text_of_items mode s (r + raises_at x) (l + lowers_at x) xs) here ∙ ap (λ t. item_text mode (s' + r' - l') x ++ t) rest

pub laid_append : (mode : Option (List ℕ)) (s r l : ℕ) (xs ys : List Item) →
    text_of_items mode s r l (xs ++ ys) ≡ text_of_items mode s r l xs ++ text_of_items mode s (r + raises xs) (l + lowers xs) ys
unfolding text_of_items raises lowers
laid_append mode s r l [] ys = laid_level mode s r l s (r + 0) (l + 0) ys (omega arith)
laid_append mode s r l (x ∷ xs) ys =
    let rest = laid_append mode s (r + raises_at x) (l + lowers_at x) xs ys in
    let shift =
    laid_level mode s (r + raises_at x + raises xs) (l + lowers_at x + lowers xs) s (r + (raises_at x + raises xs))
    (l + (lowers_at x + lowers xs)) ys (omega arith) in
    ap (λ t. item_text mode (s + r - l) x ++ t) (rest ∙ ap (λ t. text_of_items mode s (r + raises_at x) (l + lowers_at x) xs ++ t) shift)
    ∙ sym (append_assoc (item_text mode (s + r - l) x) (text_of_items mode s (r + raises_at x) (l + lowers_at x) xs)
    (text_of_items mode s (r + (raises_at x + raises xs)) (l + (lowers_at x + lowers xs)) ys))

-- after items that raise as often as they lower, the level is what it was
pub laid_balanced : (mode : Option (List ℕ)) (v : ℕ) (xs ys : List Item) → raises xs ≡ lowers xs →
    text_of_items mode v 0 0 (xs ++ ys) ≡ text_of_items mode v 0 0 xs ++ text_of_items mode v 0 0 ys
laid_balanced mode v xs ys e =
    laid_append mode v 0 0 xs ys ∙ ap (λ t. text_of_items mode v 0 0 xs ++ t) (laid_level mode v (0 + raises xs) (0 + lowers xs) v 0 0 ys (omega arith))

-- one item
pub laid_one : (mode : Option (List ℕ)) (v : ℕ) (x : Item) → text_of_items mode v 0 0 (x ∷ []) ≡ item_text mode v x
unfolding text_of_items
laid_one mode v x = let e : v + 0 - 0 ≡ v = omega arith in append-nil (item_text mode (v + 0 - 0) x) ∙ ap (λ k. item_text mode k x) e

-- items inside a bracket have the next level
pub laid_inner : (mode : Option (List ℕ)) (v : ℕ) (xs : List Item) → text_of_items mode v 0 0 (Raise ∷ (xs ++ (Lower ∷ []))) ≡ text_of_items mode (v + 1) 0 0 xs
unfolding text_of_items
laid_inner mode v xs =
    laid_append mode v (0 + 1) (0 + 0) xs (Lower ∷ []) ∙ append-nil (text_of_items mode v (0 + 1) (0 + 0) xs)
    ∙ laid_level mode v (0 + 1) (0 + 0) (v + 1) 0 0 xs (omega arith)

-- a prefix that is written once more
repeat_suc : {A : Type 0} (n : ℕ) (p : List A) → repeat n p ++ p ≡ repeat (suc n) p
repeat_suc zero p = sym (append-nil p)
repeat_suc (suc n) p = rw append_assoc (ap (λ t. p ++ t) (repeat_suc n p))

pub repeat_more : {A : Type 0} (n : ℕ) (p : List A) → repeat n p ++ p ≡ repeat (n + 1) p
repeat_more n p = rw add-one (repeat_suc n p)

-- a break of which i of n prefixes were written
pub repeat_front : {A : Type 0} (i n : ℕ) (p : List A) → i < n → repeat n p ≡ repeat i p ++ (p ++ repeat (n - (i + 1)) p)
repeat_front zero zero p h = absurd (omega (arith, h))
repeat_front zero (suc n) p h = let e : n ≡ suc n - (0 + 1) = omega arith in ap (λ k. p ++ repeat k p) e
repeat_front (suc i) zero p h = absurd (omega (arith, h))
repeat_front (suc i) (suc n) p h =
    let e : n - (i + 1) ≡ suc n - (suc i + 1) = omega arith in
    ap (λ t. p ++ t) (repeat_front i n p (omega (arith, h)) ∙ ap (λ k. repeat i p ++ (p ++ repeat k p)) e) ∙ sym (append_assoc p (repeat i p) _)

flat_raises : (x : Item) (xs : List Item) → raises (flat_item x ++ xs) ≡ raises_at x + raises xs
unfolding raises
flat_raises (Word w) xs = refl
flat_raises (StringItem value role) xs = refl
flat_raises Space xs = refl
flat_raises Comma xs = refl
flat_raises Soft xs = refl
flat_raises Tight xs = omega arith
flat_raises Blank xs = refl
flat_raises Finish xs = omega arith
flat_raises Raise xs = refl
flat_raises Lower xs = refl

flat_lowers : (x : Item) (xs : List Item) → lowers (flat_item x ++ xs) ≡ lowers_at x + lowers xs
unfolding lowers
flat_lowers (Word w) xs = refl
flat_lowers (StringItem value role) xs = refl
flat_lowers Space xs = refl
flat_lowers Comma xs = refl
flat_lowers Soft xs = refl
flat_lowers Tight xs = omega arith
flat_lowers Blank xs = refl
flat_lowers Finish xs = omega arith
flat_lowers Raise xs = refl
flat_lowers Lower xs = refl

pub raises_flat : (xs : List Item) → raises (flat xs) ≡ raises xs
unfolding flat raises
raises_flat [] = refl
raises_flat (x ∷ xs) = flat_raises x (flat xs) ∙ ap (λ n. raises_at x + n) (raises_flat xs)

pub lowers_flat : (xs : List Item) → lowers (flat xs) ≡ lowers xs
unfolding flat lowers
lowers_flat [] = refl
lowers_flat (x ∷ xs) = flat_lowers x (flat xs) ∙ ap (λ n. lowers_at x + n) (lowers_flat xs)

string_flat : (mode : Option (List ℕ)) (level : ℕ) (value : List ℕ) (role : StringRole) →
    string_text mode level value OnOneLine ≡ string_text None level value role
string_flat None level value role = refl
string_flat (Some prefix) level value role = refl

pub raise_text : (mode : Option (List ℕ)) (v : ℕ) (t : List ℕ) → item_text mode v Raise ++ t ≡ t
raise_text None v t = refl
raise_text (Some p) v t = refl

pub lower_text : (mode : Option (List ℕ)) (v : ℕ) (t : List ℕ) → item_text mode v Lower ++ t ≡ t
lower_text None v t = refl
lower_text (Some p) v t = refl

flat_one : (mode : Option (List ℕ)) (s r l : ℕ) (x : Item) (xs : List Item) →
    text_of_items mode s r l (flat_item x ++ xs)
    ≡ item_text None (s + r - l) x ++ text_of_items mode s (r + raises_at x) (l + lowers_at x) xs
unfolding text_of_items
flat_one mode s r l (Word w) xs = refl
flat_one mode s r l (StringItem value role) xs = ap (λ t. t ++ text_of_items mode s (r + 0) (l + 0) xs) (string_flat mode (s + r - l) value role)
flat_one mode s r l Space xs = refl
flat_one mode s r l Comma xs = refl
flat_one mode s r l Soft xs = refl
flat_one mode s r l Tight xs = laid_level mode s r l s (r + 0) (l + 0) xs (omega arith)
flat_one mode s r l Blank xs = refl
flat_one mode s r l Finish xs = laid_level mode s r l s (r + 0) (l + 0) xs (omega arith)
flat_one mode s r l Raise xs = raise_text mode (s + r - l) (text_of_items mode s (r + 1) (l + 0) xs)
flat_one mode s r l Lower xs = lower_text mode (s + r - l) (text_of_items mode s (r + 0) (l + 1) xs)

-- on one line the same is written, whatever the layout around it
pub laid_flat : (mode : Option (List ℕ)) (s r l : ℕ) (xs : List Item) → text_of_items mode s r l (flat xs) ≡ text_of_items None s r l xs
unfolding text_of_items flat
laid_flat mode s r l [] = refl
laid_flat mode s r l (x ∷ xs) =
    flat_one mode s r l x (flat xs) ∙ ap (λ t. item_text None (s + r - l) x ++ t) (laid_flat mode s (r + raises_at x) (l + lowers_at x) xs)

-- an empty prefix, however often
pub repeat_nothing : {A : Type 0} (n : ℕ) (p : List A) → length p ≡ 0 → repeat n p ≡ []
repeat_nothing zero p e = refl
repeat_nothing (suc n) [] e = repeat_nothing n [] e
repeat_nothing (suc n) (x ∷ p) e = absurd (omega (arith, e))
