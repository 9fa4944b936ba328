-- What a call comes to that makes another tree, or nothing where the tree stays as it is.
use Rattle.std.specs.Prelude.{List, Option, unwrap_or}
use Rattle.std.specs.Option.{option_map}
use Rattle.std.specs.declared.vec.Vec.{Vec}
use Rattle.std.proofs.Common.{Global}

-- the tree of what was made, or the old one
abbrev pub outcome : {X T : Type 0} → (X → T) → T → Option X → T
outcome tree old made = unwrap_or (option_map tree made) old

-- the same of lists
abbrev pub outcome_items : {X : Type 0} → List X → Option (Vec X Global) → List X
outcome_items = outcome (λ made. made.items)
