-- What a walk does: it enters each node, goes through those within it, and leaves it, until a call fails or stops it.
use Rattle.std.specs.Prelude.{◌≡◌, ⊤, Bool, true, false, Result, Ok, Err}
use Rattle.std.proofs.Common.{ControlFlow}
use Rattle.std.proofs.Common.{Continue as GoOn, Break}
use Rattle.graphql_visit.specs.NodeTrees.{NodeTree}
use Rattle.graphql_visit.specs.Visits.{Visits, no_visits, visit}
use Rattle.graphql_visit.specs.declared.visitor.Ended.{Ended}
use Rattle.graphql_visit.specs.declared.visitor.Ended.TheVariants.{Stopped, Failed}
use Rattle.graphql_visit.specs.declared.visitor.Flow.{Flow}
use Rattle.graphql_visit.specs.declared.visitor.Flow.TheVariants.{Continue, Skip, Stop}

-- A step takes a visitor to an answer, that the walk goes on or how it ended, and to the visitor behind it.
abbrev pub Step : Type 0 → Type 0 → Type 1
Step S E = S → Result ⊤ (Ended E) → S → Type 0

-- what the answer of the call before a node is to a walk: whether it goes into the node
abbrev pub entered : {E : Type 0} → Result Flow E → Result Bool (Ended E)
entered (Ok Continue) = Ok true
entered (Ok Skip) = Ok false
entered (Ok Stop) = Err Stopped
entered (Err error) = Err (Failed error)

-- what the answer of the call behind a node is to a walk
abbrev pub left : {E : Type 0} → Result (ControlFlow ⊤ ⊤) E → Result ⊤ (Ended E)
left (Ok (GoOn u)) = Ok tt
left (Ok (Break u)) = Err Stopped
left (Err error) = Err (Failed error)

module _ {S E : Type 0} where
  -- The next step, where the walk goes on. Where it ended, nothing more is done.
  abbrev pub Then : Step S E → Result ⊤ (Ended E) → Step S E
  Then next (Ok u) s answer t = next s answer t
  Then next (Err ended) s answer t = (answer ≡ Err ended) × (t ≡ s)

  module _ (enters : NodeTree → S → Result Flow E → S → Type 0) (leaves : NodeTree → S → Result (ControlFlow ⊤ ⊤) E → S → Type 0) where
    -- the call before a node, and the call behind it
    abbrev pub Enters : NodeTree → S → Result Bool (Ended E) → S → Type 0
    Enters node s answer t = (flow : Result Flow E) × enters node s flow t × (answer ≡ entered flow)

    abbrev pub Leaves : NodeTree → Step S E
    Leaves node s answer t = (flow : Result (ControlFlow ⊤ ⊤) E) × leaves node s flow t × (answer ≡ left flow)

    -- behind the call before a node: into it, and out of it; or past it
    abbrev pub Entered : NodeTree → Step S E → Result Bool (Ended E) → Step S E
    Entered node within (Ok true) s answer t =
        (inner : S) × (done : Result ⊤ (Ended E)) × within s done inner × Then (Leaves node) done inner answer t
    Entered node within (Ok false) s answer t = (answer ≡ Ok tt) × (t ≡ s)
    Entered node within (Err ended) s answer t = (answer ≡ Err ended) × (t ≡ s)

    -- a node, and what is within it
    abbrev pub WalksNode : NodeTree → Step S E → Step S E
    WalksNode node within s answer t = (at : S) × (go : Result Bool (Ended E)) × Enters node s go at × Entered node within go at answer t

    -- nodes one behind another
    unfoldable pub Walks : Visits → Step S E
    Walks no_visits s answer t = (answer ≡ Ok tt) × (t ≡ s)
    Walks (visit node within behind) s answer t =
        (at : S) × (done : Result ⊤ (Ended E)) × WalksNode node (Walks within) s done at × Then (Walks behind) done at answer t
