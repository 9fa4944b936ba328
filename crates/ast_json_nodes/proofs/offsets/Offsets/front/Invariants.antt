use Rattle.std.proofs.Common.{◌≡◌, ◌<◌, ℕ, ◌+◌, ◌*◌, ◌≤◌, length, sum_by, take}
use Rattle.ast_json_nodes.specs.nodes.Offsets.{units}
use Rattle.ast_json_nodes.specs.declared.offsets.Offsets.TheVariants.{Bytes}
use Rattle.ast_json_nodes.proofs.offsets.Offsets.front.Given as goal

abbrev pub invariant-loop-character : goal.invariant-loop-character
invariant-loop-character l =
    (l.count ≡ sum_by (units l.self) l.yielded)
    × (l.byte ≡ sum_by (units Bytes) l.yielded)
    × (l.byte ≤ 4 * l.count)
    × (l.count < l.offset + 4)
    × ((j : ℕ) → j < length l.yielded → sum_by (units l.self) (take j l.yielded) < l.offset)
