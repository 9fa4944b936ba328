-- The stacks that definitions are written with.
use Rattle.std.specs.Prelude.{ℕ}
use Rattle.graphql_text.specs.layout.Levels.{Fits}
use Rattle.graphql_text.specs.code.Stack.{IsReady, IsKept}
use Rattle.graphql_text.specs.declared.place.Place.{Place}
use Rattle.graphql_values.specs.declared.stacks.Stacks.{Stacks}

-- A definition that nests so deep, with types of so many lists, may be written: from the place on its levels can be counted, and there is room
-- for it on the empty stacks.
pub record CanWriteDefinition (place : Place) (stacks : Stacks) (nesting lists : ℕ) : Type 0 where
  pub fits : Fits place.level nesting
  pub values : IsReady stacks.values nesting
  pub types : IsReady stacks.types lists

-- Both are empty again, and no room was lost.
pub record AreKept (a b : Stacks) : Type 0 where
  pub values : IsKept a.values b.values
  pub types : IsKept a.types b.types
