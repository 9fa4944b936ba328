-- The stacks that operations, fragments and selections are written with.
use Rattle.std.specs.Prelude.{ℕ}
use Rattle.graphql_text.specs.code.Stack.{IsReady, IsKept}
use Rattle.graphql_text.specs.declared.place.Place.{Place}
use Rattle.graphql_values.specs.code.Stacks.{AreKept, CanWriteDefinition}
use Rattle.graphql_executable.specs.declared.stacks.ExecutableStacks.{ExecutableStacks}

-- What nests so deep, with types of so many lists, may be written: from the place on its levels can be counted, and there is room for it on
-- the empty stacks.
pub record CanWriteExecutable (place : Place) (stacks : ExecutableStacks) (nesting lists : ℕ) : Type 0 where
  pub definition : CanWriteDefinition place stacks.definitions nesting lists
  pub selections : IsReady stacks.selections nesting

-- All are empty again, and no room was lost.
pub record AreAllKept (a b : ExecutableStacks) : Type 0 where
  pub definitions : AreKept a.definitions b.definitions
  pub selections : IsKept a.selections b.selections
