-- What a walk does that only reads: each node once, in order, until a call fails.
use Rattle.std.proofs.Common.{ControlFlow}
use Rattle.std.proofs.Common.{Continue as GoOn}
use Rattle.std.specs.Prelude.{◌≡◌, ◌⊎◌, ⊤, List, [], ◌∷◌, Result, Ok, Err}
use Rattle.graphql_visit.specs.NodeTrees.{NodeTree}
use Rattle.graphql_visit.specs.declared.visitor.Flow.{Flow}
use Rattle.graphql_visit.specs.declared.visitor.Flow.TheVariants.{Continue}

-- behind a node nothing is done, and the walk goes on
abbrev pub GoesOn : {S E : Type 0} → NodeTree → S → Result (ControlFlow ⊤ ⊤) E → S → Type 0
GoesOn node s flow t = (flow ≡ Ok (GoOn tt)) × (t ≡ s)

module _ {S E : Type 0} (reads : NodeTree → S → Result ⊤ E → S → Type 0) where
  -- a reading as the call before a node, which always goes on
  abbrev pub ReadsAt : NodeTree → S → Result Flow E → S → Type 0
  ReadsAt node s (Ok flow) t = (flow ≡ Continue) × reads node s (Ok tt) t
  ReadsAt node s (Err error) t = reads node s (Err error) t

  -- nodes in order
  unfoldable pub Reads : List NodeTree → S → Result ⊤ E → S → Type 0
  Reads [] s answer t = (answer ≡ Ok tt) × (t ≡ s)
  Reads (node ∷ nodes) s (Ok u) t = (at : S) × reads node s (Ok tt) at × Reads nodes at (Ok u) t
  Reads (node ∷ nodes) s (Err error) t =
      reads node s (Err error) t ⊎ ((at : S) × reads node s (Ok tt) at × Reads nodes at (Err error) t)
