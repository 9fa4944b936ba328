-- The end of a comma group: its last comma may be written once the level is lowered, since a comma is the same at every level.
use Rattle.std.proofs.Common.{◌≡◌, ℕ, ◌+◌, ◌-◌, Bool, true, false, List, ◌∷◌, ◌++◌, Option, None, Some, refl, ap₂, ◌∙◌, arith}
use Rattle.graphql_text.specs.layout.Layout.{Item, Comma, Lower, item_text, text_of_items, raises, lowers, last_comma}
use Rattle.graphql_text.specs.code.Writing.{WritesItems, WritesToLevel}
use Rattle.graphql_text.proofs.layout.TextOfItems.{laid_level, lower_text}

comma_text : (mode : Option (List ℕ)) (v w : ℕ) → item_text mode v Comma ≡ item_text mode w Comma
comma_text None v w = refl
comma_text (Some p) v w = refl

lowered : (mode : Option (List ℕ)) (v v' r l : ℕ) (xs : List Item) → v' + 1 ≡ v → r ≡ 0 → l ≡ 0 →
    text_of_items mode v r l (Lower ∷ xs) ≡ text_of_items mode v' r l xs
unfolding text_of_items
lowered mode v v' r l xs e none_raised none_lowered =
    lower_text mode (v + r - l) (text_of_items mode v (r + 0) (l + 1) xs) ∙ laid_level mode v (r + 0) (l + 1) v' r l xs (omega arith)

end_lowered : (broken : Bool) (mode : Option (List ℕ)) (v v' : ℕ) (xs : List Item) → v' + 1 ≡ v →
    text_of_items mode v 0 0 (last_comma broken ++ (Lower ∷ xs)) ≡ text_of_items mode v' 0 0 (last_comma broken ++ xs)
unfolding text_of_items
end_lowered false mode v v' xs e = lowered mode v v' 0 0 xs e refl refl
end_lowered true mode v v' xs e =
    ap₂ (λ comma more. comma ++ more) (comma_text mode (v + 0 - 0) (v' + 0 - 0)) (lowered mode v v' (0 + 0) (0 + 0) xs e refl refl)

more_lowered : (broken : Bool) (xs : List Item) → lowers (last_comma broken ++ (Lower ∷ xs)) ≡ lowers (last_comma broken ++ xs) + 1
unfolding lowers
more_lowered false xs = omega arith
more_lowered true xs = omega arith

as_raised : (broken : Bool) (xs : List Item) → raises (last_comma broken ++ (Lower ∷ xs)) ≡ raises (last_comma broken ++ xs)
unfolding raises
as_raised false xs = omega arith
as_raised true xs = omega arith

module _ {O : Type 0} {wrote : O → List ℕ → O → Type 0} where
  pub levels_end : {a b : O} {mode : Option (List ℕ)} {v v' : ℕ} (broken : Bool) (xs : List Item) → v' + 1 ≡ v →
      WritesItems wrote a b mode v' (last_comma broken ++ xs) → WritesToLevel wrote a b mode v (last_comma broken ++ (Lower ∷ xs)) v'
  levels_end {a} {b} {mode} {v} {v'} broken xs e written = record {
    text = rw (end_lowered broken mode v v' xs e) written.text;
    levels = omega (arith, e, written.balanced, more_lowered broken xs, as_raised broken xs);
  }
