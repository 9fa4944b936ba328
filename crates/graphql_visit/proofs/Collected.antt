-- Of Readings: a reader that keeps what it finds at each node has found, behind a walk, what all nodes have, in order.
use Rattle.std.proofs.Common.{◌≡◌, Result, Ok, List, [], ◌∷◌, ◌++◌, sym, ap, ◌∙◌, append-nil}
use Rattle.std.specs.Prelude.{⊤}
use Rattle.std.specs.List.{flat_map}
use Rattle.std.proofs.lemmas.List.{append_assoc}
use Rattle.graphql_visit.specs.NodeTrees.{NodeTree}
use Rattle.graphql_visit.specs.Readings.{Reads}

module _ {S E Item : Type 0} (reads : NodeTree → S → Result ⊤ E → S → Type 0) (kept : S → List Item) (found_at : NodeTree → List Item) where
  pub collected : ((node : NodeTree) (s t : S) → reads node s (Ok tt) t → kept t ≡ kept s ++ found_at node) →
      (nodes : List NodeTree) (s t : S) → Reads reads nodes s (Ok tt) t → kept t ≡ kept s ++ flat_map found_at nodes
  unfolding Reads
  collected keeps [] s t p = ap kept p.1 ∙ sym (append-nil (kept s))
  collected keeps (node ∷ nodes) s t (at, here, more) =
      collected keeps nodes at t more
      ∙ ap (λ items. items ++ flat_map found_at nodes) (keeps node s at here)
      ∙ append_assoc (kept s) (found_at node) (flat_map found_at nodes)
