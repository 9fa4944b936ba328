-- The stacks of executable definitions are emptied again and again.
use Rattle.std.proofs.Common.{ℕ, ap, arith, length, List, Option}
use Rattle.graphql_text.specs.layout.Layout.{Item}
use Rattle.graphql_text.specs.code.Stack.{stack_entries}
use Rattle.graphql_text.specs.declared.place.Place.{Place}
use Rattle.graphql_text.proofs.code.KeptStacks.{kept_twice}
use Rattle.graphql_values.proofs.code.DefinitionStacksKept.{stacks_twice}
use Rattle.graphql_executable.specs.code.ExecutableStacks.{AreAllKept, CanWriteExecutable}
use Rattle.graphql_executable.specs.code.SelectionWalk.{CanFinish, CanOpen, LoseNoRoom, Opens, stack_need}
use Rattle.graphql_executable.specs.declared.stacks.ExecutableStacks.{ExecutableStacks}

pub all_kept_twice : {a b c : ExecutableStacks} → AreAllKept a b → AreAllKept b c → AreAllKept a c
all_kept_twice first second = record {
  definitions = stacks_twice first.definitions second.definitions;
  selections = kept_twice first.selections second.selections;
}

-- what may be written may be begun
pub can_open : {place : Place} {s : ExecutableStacks} {n : ℕ} → CanWriteExecutable place s n 0 → CanOpen place.level s n
can_open {s = s} ready =
    let empty = ready.selections.entries in
    record {
      fits = ready.definition.fits;
      room = record {
        values = ready.definition.values;
        types = ready.definition.types;
        selections = omega (arith, ap length empty, ap stack_need empty, ready.selections.room);
      };
    }

-- and then finished
pub can_finish : {O : Type 0} {wrote : O → List ℕ → O → Type 0} {a b : O} {mode : Option (List ℕ)} {place : Place} {s t : ExecutableStacks}
    {level n opened : ℕ} {shape : List Item} →
    CanWriteExecutable place s n 0 → LoseNoRoom s t →
    Opens wrote a b mode place.level level shape opened n (stack_entries s.selections) (stack_entries t.selections) → CanFinish level t
can_finish ready kept opens =
    let empty = ready.selections.entries in
    let definitions = kept.definitions in
    record {
      room = record {
        values = record {
          entries = definitions.values.entries;
          room = omega (arith, opens.need, ap length empty, ap stack_need empty, definitions.values.room, ready.definition.values.room);
        };
        types = record { entries = definitions.types.entries; room = omega arith };
        selections = omega (arith, opens.need, ap length empty, ap stack_need empty, kept.selections, ready.selections.room);
      };
      fits = omega (arith, opens.levels, opens.count, opens.need, ap length empty, ap stack_need empty, ready.definition.fits);
      inside = omega (arith, opens.levels, opens.count, ap length empty);
    }

pub all_kept : {a b c : ExecutableStacks} → LoseNoRoom a b → AreAllKept b c → AreAllKept a c
all_kept first second = record {
  definitions = stacks_twice first.definitions second.definitions;
  selections = record { entries = second.selections.entries; room = omega (arith, first.selections, second.selections.room) };
}
