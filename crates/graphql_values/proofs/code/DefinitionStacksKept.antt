-- The stacks of definitions are emptied again and again.
use Rattle.std.proofs.Common.{ℕ}
use Rattle.graphql_text.specs.declared.place.Place.{Place}
use Rattle.graphql_text.proofs.code.KeptStacks.{kept_twice, kept_unused}
use Rattle.graphql_values.specs.code.Stacks.{AreKept, CanWriteDefinition}
use Rattle.graphql_values.specs.declared.stacks.Stacks.{Stacks}

pub stacks_unused : {place : Place} {s : Stacks} {n m : ℕ} → CanWriteDefinition place s n m → AreKept s s
stacks_unused ready = record { values = kept_unused ready.values; types = kept_unused ready.types }

pub stacks_twice : {a b c : Stacks} → AreKept a b → AreKept b c → AreKept a c
stacks_twice first second = record { values = kept_twice first.values second.values; types = kept_twice first.types second.types }
