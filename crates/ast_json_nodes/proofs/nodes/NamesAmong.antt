-- Whether a name is one of some names.
use Rattle.std.proofs.Common.{◌≡◌, ℕ, Bool, true, false, ◌||◌, nat_eq, List, [], ◌∷◌, ◌++◌, refl, ap, ◌∙◌}
use Rattle.std.specs.Cmp.Lexicographic.{pointwise}
use Rattle.graphql_text.specs.grammar.Forms.{is_one_of}

or_true : (a : Bool) → (a || true) ≡ true
or_true true = refl
or_true false = refl

or_assoc : (a b c : Bool) → (a || (b || c)) ≡ ((a || b) || c)
or_assoc true b c = refl
or_assoc false b c = refl

one_of_either : (names others : List (List ℕ)) (name : List ℕ) → is_one_of (names ++ others) name ≡ (is_one_of names name || is_one_of others name)
one_of_either [] others name = refl
one_of_either (known ∷ more) others name =
    ap (λ rest. pointwise nat_eq known name || rest) (one_of_either more others name)
    ∙ or_assoc (pointwise nat_eq known name) (is_one_of more name) (is_one_of others name)

pub one_of_first : (names others : List (List ℕ)) (name : List ℕ) → is_one_of names name ≡ true → is_one_of (names ++ others) name ≡ true
one_of_first names others name is = one_of_either names others name ∙ ap (λ one. one || is_one_of others name) is

pub one_of_others : (names others : List (List ℕ)) (name : List ℕ) → is_one_of names name ≡ false →
    is_one_of (names ++ others) name ≡ is_one_of others name
one_of_others names others name is = one_of_either names others name ∙ ap (λ one. one || is_one_of others name) is

pub one_of_last : (names others : List (List ℕ)) (name : List ℕ) → is_one_of others name ≡ true → is_one_of (names ++ others) name ≡ true
one_of_last names others name is = one_of_either names others name ∙ ap (λ one. is_one_of names name || one) is ∙ or_true (is_one_of names name)

pub ruleset one_of_steps = (one_of_first, one_of_last, one_of_others)
