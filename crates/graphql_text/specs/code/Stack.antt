-- What a stack holds, how many entries it has room for, and what it is to have room to write.
use Rattle.std.specs.Prelude.{◌≡◌, ℕ, ◌≤◌, List, [], Option, Some, None, vec_capacity}
use Rattle.std.specs.declared.vec.Vec.{Vec}
use Rattle.std.specs.declared.alloc.Global.{Global}
use Rattle.graphql_text.specs.layout.Levels.{Fits}
use Rattle.graphql_text.specs.declared.place.Place.{Place}
use Rattle.graphql_text.specs.declared.stack.Stack.{Stack}

module _ {T : Type 0} where
  abbrev pub vec_entries : Option (Vec T Global) → List T
  vec_entries None = []
  vec_entries (Some v) = v.items

  abbrev pub vec_room : Option (Vec T Global) → ℕ
  vec_room None = 0
  vec_room (Some v) = vec_capacity v

  abbrev pub stack_entries : Stack T → List T
  stack_entries s = vec_entries s.entries

  abbrev pub stack_room : Stack T → ℕ
  stack_room s = vec_room s.entries

  -- an empty stack with room for a count of entries
  pub record IsReady (s : Stack T) (count : ℕ) : Type 0 where
    pub entries : stack_entries s ≡ []
    pub room : count ≤ stack_room s

  -- empty again, and no room was lost
  pub record IsKept (a b : Stack T) : Type 0 where
    pub entries : stack_entries b ≡ []
    pub room : stack_room a ≤ stack_room b

  -- What nests so deep may be written: from the place on its levels can be counted, and there is room for it on the empty stack.
  pub record CanWrite (place : Place) (s : Stack T) (nesting : ℕ) : Type 0 where
    pub fits : Fits place.level nesting
    pub ready : IsReady s nesting
