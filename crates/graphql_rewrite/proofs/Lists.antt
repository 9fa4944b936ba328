-- Of Outcomes: lists that are made item by item.
use Rattle.std.proofs.Common.{◌≡◌, ℕ, ◌+◌, ◌<◌, ◌≤◌, List, [], ◌∷◌, ◌++◌, length, get_or, take, map, Option, Some, None, Vec, Global, refl, ap, ap₂, sym, ◌∙◌}
use Rattle.std.specs.Prelude.{unwrap_or}
use Rattle.std.proofs.lemmas.List.{map-append, take_all, take_more}
use Rattle.graphql_rewrite.specs.Outcomes.{outcome, outcome_items}

module _ {X T : Type 0} (tree : X → T) where
  outcome_is : (x : X) (item : Option X) → tree (unwrap_or item x) ≡ outcome tree (tree x) item
  outcome_is x None = refl
  outcome_is x (Some made) = refl

  -- of lists that stand for a tree of another form than the list of their trees
  pub outcome_within : {U : Type 0} (whole : List T → U) (all_of : List X → U) → ((items : List X) → all_of items ≡ whole (map tree items)) →
      (items : List X) (made : Option (Vec X Global)) →
      outcome (λ all. all_of all.items) (all_of items) made ≡ whole (outcome (λ all. map tree all.items) (map tree items) made)
  outcome_within whole all_of are items None = are items
  outcome_within whole all_of are items (Some all) = are all.items

  module _ (f : T → T) (items : List X) where
    -- the first items are made
    abbrev pub IsMadeUpTo : ℕ → Option (Vec X Global) → Type 0
    IsMadeUpTo i made = map tree (outcome_items (take i items) made) ≡ map f (map tree (take i items))

    -- one more item
    pub made_on : (i : ℕ) (x : X) (made more : Option (Vec X Global)) (item : Option X) → i < length items → x ≡ get_or items i x →
        ((y : X) → y ≡ get_or items i y →
        outcome_items (take (i + 1) items) more ≡ outcome_items (take i items) made ++ unwrap_or item y ∷ []) →
        outcome tree (tree x) item ≡ f (tree x) → IsMadeUpTo i made → IsMadeUpTo (i + 1) more
    made_on i x made more item below is kept one so_far =
        let last : take (i + 1) items ≡ take i items ++ x ∷ [] = take_more items i x below ∙ ap (λ y. take i items ++ y ∷ []) (sym is) in
        ap (map tree) (kept x is) ∙ map-append tree (outcome_items (take i items) made) (unwrap_or item x ∷ [])
        ∙ ap₂ (λ l t. l ++ t ∷ []) so_far (outcome_is x item ∙ one)
        ∙ sym (ap (λ l. map f (map tree l)) last ∙ ap (map f) (map-append tree (take i items) (x ∷ []))
        ∙ map-append f (map tree (take i items)) (tree x ∷ []))

    -- all of them
    pub all_made : (i : ℕ) (made : Option (Vec X Global)) → length items ≤ i → IsMadeUpTo i made →
        outcome (λ all. map tree all.items) (map tree items) made ≡ map f (map tree items)
    all_made i None past so_far = ap (map tree) (sym (take_all i items past)) ∙ so_far ∙ ap (λ l. map f (map tree l)) (take_all i items past)
    all_made i (Some all) past so_far = so_far ∙ ap (λ l. map f (map tree l)) (take_all i items past)

-- WHAT STAYS

module _ {X T : Type 0} (part : X → T) (items : List X) where
  -- of the first items, a part is that of the old ones
  abbrev pub StaysUpTo : ℕ → Option (Vec X Global) → Type 0
  StaysUpTo i made = map part (outcome_items (take i items) made) ≡ map part (take i items)

  pub stays_on : (i : ℕ) (x : X) (made more : Option (Vec X Global)) (item : Option X) → i < length items → x ≡ get_or items i x →
      ((y : X) → y ≡ get_or items i y →
      outcome_items (take (i + 1) items) more ≡ outcome_items (take i items) made ++ unwrap_or item y ∷ []) →
      outcome part (part x) item ≡ part x → StaysUpTo i made → StaysUpTo (i + 1) more
  stays_on i x made more item below is kept one so_far =
      ap (map part) (kept x is) ∙ map-append part (outcome_items (take i items) made) (unwrap_or item x ∷ [])
      ∙ ap₂ (λ l t. l ++ t ∷ []) so_far (outcome_is part x item ∙ one)
      ∙ sym (ap (map part) (take_more items i x below ∙ ap (λ y. take i items ++ y ∷ []) (sym is)) ∙ map-append part (take i items) (x ∷ []))

  pub all_stay : (i : ℕ) (made : Option (Vec X Global)) → length items ≤ i → StaysUpTo i made →
      outcome (λ all. map part all.items) (map part items) made ≡ map part items
  all_stay i None past so_far = refl
  all_stay i (Some all) past so_far = so_far ∙ ap (map part) (take_all i items past)

pub ruleset stay_steps = (stays_on, all_stay)

pub ruleset made_steps = (made_on, all_made)
