-- What stands inside of a value nests less deep than the value.
use Rattle.std.proofs.Common.{ℕ, zero, suc, ◌<◌, ◌≤◌, List, [], ◌∷◌, length, get_or, arith}
use Rattle.serde_json.specs.Data.{depth, items_depth}
use Rattle.serde_json.specs.View.{view, items_view}
use Rattle.serde_json.specs.declared.value.Value.{Value}

-- an item is no deeper than the items
pub item-depth : (items : List Value) (i : ℕ) (other : Value) → i < length items → depth (view (get_or items i other)) ≤ items_depth (items_view items)
item-depth [] i other h = absurd (omega arith)
item-depth (first ∷ more) zero other h = omega arith
item-depth (first ∷ more) (suc i) other h = omega (arith, item-depth more i other (omega arith))
