-- What escaping quotes does, step by step.
use Rattle.std.proofs.Common.{◌≡◌, ℕ, zero, suc, Bool, true, false, ◌&&◌, if◌then◌else◌, List, [], ◌∷◌, ◌++◌, drop, refl, ap, sym, ◌∙◌, eqb-true, true≢false}
use Rattle.graphql_text.specs.lexical.Characters.{is_quote, quotes, escaped_quotes, begins_with}
use Rattle.graphql_text.proofs.general.BooleanTests.{all_three, and-false}
use Rattle.graphql_text.specs.strings.BlockForm.{escape_quotes}

-- both ways to say that three characters are quotes
three_same : (a b c : ℕ) (text : List ℕ) →
    begins_with quotes (a ∷ b ∷ c ∷ text) ≡ (is_quote a && is_quote b && is_quote c)
three_same a b c text = go (is_quote a) (is_quote b) (is_quote c)
  where
    go : (x y z : Bool) → (x && (y && (z && true))) ≡ (x && y && z)
    go true true true = refl
    go true true false = refl
    go true false z = refl
    go false y z = refl

pub one_is_none : (a : ℕ) → begins_with quotes (a ∷ []) ≡ false
one_is_none a = and-false (is_quote a)

pub two_are_none : (a b : ℕ) → begins_with quotes (a ∷ b ∷ []) ≡ false
two_are_none a b = ap (λ x. is_quote a && x) (and-false (is_quote b)) ∙ and-false (is_quote a)

-- where `"""` begins, it is escaped, and what follows it is what is escaped next
pub escape_here : (text : List ℕ) → begins_with quotes text ≡ true →
    escape_quotes text ≡ escaped_quotes ++ escape_quotes (drop 3 text)
escape_here [] h = cc
escape_here (a ∷ []) h = absurd (true≢false (sym h ∙ one_is_none a))
escape_here (a ∷ b ∷ []) h = absurd (true≢false (sym h ∙ two_are_none a b))
escape_here (a ∷ b ∷ c ∷ text) h = rw (sym (three_same a b c text) ∙ h) refl

-- where it doesn't, one character is taken as it is
pub escape_not_here : (c : ℕ) (text : List ℕ) → begins_with quotes (c ∷ text) ≡ false →
    escape_quotes (c ∷ text) ≡ c ∷ escape_quotes text
escape_not_here c [] h = refl
escape_not_here c (d ∷ []) h = refl
escape_not_here c (d ∷ e ∷ text) h = rw (sym (three_same c d e text) ∙ h) refl

-- escaping character by character; the number counts characters to be taken as they are
abbrev pub escape_from : ℕ → List ℕ → List ℕ
escape_from as_is [] = []
escape_from (suc as_is) (c ∷ text) = c ∷ escape_from as_is text
escape_from zero (c ∷ text) =
    let here = begins_with quotes (c ∷ text) in
    (if here then 92 ∷ c ∷ [] else c ∷ []) ++ escape_from (if here then 2 else 0) text

pub escape_from_is : (text : List ℕ) → escape_quotes text ≡ escape_from 0 text
escape_from_is [] = refl
escape_from_is (a ∷ []) = rw (one_is_none a) refl
escape_from_is (a ∷ b ∷ []) = rw (two_are_none a b) (ap (λ (l : List ℕ). a ∷ l) (escape_from_is (b ∷ [])))
escape_from_is (a ∷ b ∷ c ∷ text) =
    go (is_quote a && is_quote b && is_quote c) refl (escape_from_is text) (escape_from_is (b ∷ c ∷ text))
  where
    go : (x : Bool) → (is_quote a && is_quote b && is_quote c) ≡ x →
        escape_quotes text ≡ escape_from 0 text →
        escape_quotes (b ∷ c ∷ text) ≡ escape_from 0 (b ∷ c ∷ text) →
        (if x then escaped_quotes ++ escape_quotes text else a ∷ escape_quotes (b ∷ c ∷ text)) ≡ escape_from 0 (a ∷ b ∷ c ∷ text)
    go true h past next =
        let (p, q, r) = all_three (is_quote a) (is_quote b) (is_quote c) h in
        let same : escaped_quotes ++ escape_quotes text ≡ 92 ∷ a ∷ b ∷ c ∷ escape_from 0 text =
        cc (eqb-true a 0x22 p, eqb-true b 0x22 q, eqb-true c 0x22 r, past) in
        rw (three_same a b c text ∙ h) same
    go false h past next = rw (three_same a b c text ∙ h) (ap (λ (l : List ℕ). a ∷ l) next)
