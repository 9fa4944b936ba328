-- A stack that is emptied again and again.
use Rattle.std.proofs.Common.{ℕ, arith}
use Rattle.graphql_text.specs.code.Stack.{IsKept, IsReady}
use Rattle.graphql_text.specs.declared.stack.Stack.{Stack}

module _ {T : Type 0} where
  pub kept_unused : {s : Stack T} {n : ℕ} → IsReady s n → IsKept s s
  kept_unused {s} {n} ready = record { entries = ready.entries; room = omega arith }

  pub kept_twice : {a b c : Stack T} → IsKept a b → IsKept b c → IsKept a c
  kept_twice {a} {b} {c} first second = record { entries = second.entries; room = omega (arith, first.room, second.room) }
