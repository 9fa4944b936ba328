-- Lists of nodes go item by item.
use Rattle.std.proofs.Common.{◌≡◌, ℕ, zero, suc, ◌+◌, ◌<◌, List, [], ◌∷◌, ◌++◌, length, drop, take, get_or, map, ap, sym, ◌∙◌, subst, arith, add-one, drop-cons}
use Rattle.std.proofs.lemmas.List.{map-append, take_more}
use Rattle.serde_json.specs.Data.{Data}
use Rattle.serde_json.specs.View.{items_of, items_view, view}
use Rattle.serde_json.specs.declared.value.Value.{Value}
use Rattle.ast_json_nodes.specs.nodes.Nodes.{Each}

-- one more item
pub one_more : {A B : Type 0} (Is : A → Data → Type 0) (tree : B → A) (nodes : List B) (items : List Data) (node : B) (item : Data) →
    Each Is (map tree nodes) (items_of items) → Is (tree node) item → Each Is (map tree (nodes ++ node ∷ [])) (items_of (items ++ item ∷ []))
one_more Is tree [] [] node item are is = (is, tt)
one_more Is tree [] (first ∷ items) node item are is = absurd are
one_more Is tree (first ∷ nodes) [] node item are is = absurd are
one_more Is tree (first ∷ nodes) (other ∷ items) node item are is = (are.0, one_more Is tree nodes items node item are.1 is)

-- the same of values that are written
pub one_more_written : {A B : Type 0} (Is : A → Data → Type 0) (tree : B → A) (nodes : List B) (items : List Value) (node : B) (item : Value) →
    Each Is (map tree nodes) (items_view items) → Is (tree node) (view item) → Each Is (map tree (nodes ++ node ∷ [])) (items_view (items ++ item ∷ []))
one_more_written Is tree nodes items node item are is =
    subst (λ (ds : List Data). Each Is (map tree (nodes ++ node ∷ [])) (items_of ds)) (sym (map-append view items (item ∷ [])))
    (one_more Is tree nodes (map view items) node (view item) are is)

-- where an item is of no tree, the items are of none
pub none_each : {A : Type 0} (Is : A → Data → Type 0) (items : List Data) (i : ℕ) (item : Data) → i < length items →
    ((tree : A) → Is tree (get_or items i item) → ⊥) → (trees : List A) → Each Is trees (items_of items) → ⊥
none_each Is [] i item lt none trees are = absurd (omega arith)
none_each Is (first ∷ items) i item lt none [] are = are
none_each Is (first ∷ items) zero item lt none (tree ∷ trees) are = none tree are.0
none_each Is (first ∷ items) (suc i) item lt none (tree ∷ trees) are = none_each Is items i item (omega arith) none trees are.1

-- the step of a loop: one more is taken, which is the item at that index
pub take_next : {A : Type 0} (xs : List A) (i : ℕ) (x : A) → i < length xs → x ≡ get_or xs i x → take (i + 1) xs ≡ take i xs ++ x ∷ []
take_next xs i x within is = take_more xs i x within ∙ ap (λ y. take i xs ++ y ∷ []) (sym is)

-- the step of a loop: what is left begins with the item at that index
pub drop_next : {A : Type 0} (xs : List A) (i : ℕ) (x : A) → i < length xs → x ≡ get_or xs i x → drop i xs ≡ x ∷ drop (i + 1) xs
drop_next xs i x within is = rw (add-one, drop-cons xs i x) (ap (λ y. y ∷ drop (suc i) xs) (sym is))

-- the same of an item that is found under another
pub take_item : {A : Type 0} (xs : List A) (i : ℕ) (x other : A) → i < length xs → x ≡ get_or xs i other → take (i + 1) xs ≡ take i xs ++ x ∷ []
take_item xs i x other within is = take_more xs i other within ∙ ap (λ y. take i xs ++ y ∷ []) (sym is)
