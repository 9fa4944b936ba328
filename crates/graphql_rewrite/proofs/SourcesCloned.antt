-- Of graphql_ast's Sources: what a clone of sources keeps.
use Rattle.std.proofs.Common.{◌≡◌, List, [], ◌∷◌, map, refl, ap₂}
use Rattle.std.specs.List.{AllZip}

-- lists of which each item gives the same
module _ {A B : Type 0} (R : A → A → Type 0) (f : A → B) (same : (x y : A) → R x y → f y ≡ f x) where
  pub mapped_alike : (xs ys : List A) → AllZip R xs ys → map f ys ≡ map f xs
  mapped_alike [] [] alike = refl
  mapped_alike [] (y ∷ ys) alike = elim alike [ ]
  mapped_alike (x ∷ xs) [] alike = elim alike [ ]
  mapped_alike (x ∷ xs) (y ∷ ys) alike = ap₂ (λ t ts. t ∷ ts) (same x y alike.0) (mapped_alike xs ys alike.1)
