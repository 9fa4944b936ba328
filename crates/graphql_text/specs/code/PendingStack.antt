-- What waits on a stack to be written, the last entry first, for a writer that goes through a tree by a stack.
-- `items` says what is left to write of an entry, and `nesting` how deep that nests.
use Rattle.std.specs.Prelude.{◌≡◌, ℕ, ◌+◌, ◌≤◌, ◌<◌, max, List, [], ◌∷◌, ◌++◌, length, Option}
use Rattle.graphql_text.specs.layout.Layout.{Item}
use Rattle.graphql_text.specs.code.Writing.{WritesBeginning}

module _ {Entry : Type 0} where
  -- what is left of all that waits
  abbrev pub pending_items : (Entry → List Item) → List Entry → List Item
  pending_items items [] = []
  pending_items items (entry ∷ entries) = pending_items items entries ++ items entry

  -- how many entries the stack may come to hold, these among them
  abbrev pub pending_need : (Entry → ℕ) → List Entry → ℕ
  pending_need nesting [] = 0
  pending_need nesting (entry ∷ entries) = max (max 1 (nesting entry)) (pending_need nesting entries + 1)

  -- the same while something that nests so deep is written above them
  abbrev pub need_above : (Entry → ℕ) → ℕ → List Entry → ℕ
  need_above nesting depth entries = max (length entries + depth) (pending_need nesting entries)

-- While others wait, something was begun: written up to what is in it, which waits now too. It raises the level by so much, and nests so deep.
pub record OpensAbove {Entry O : Type 0} (items : Entry → List Item) (nesting : Entry → ℕ) (wrote : O → List ℕ → O → Type 0) (a b : O)
    (mode : Option (List ℕ)) (level after : ℕ) (shape : List Item) (opened depth : ℕ) (entries left : List Entry) : Type 0 where
  pub written : WritesBeginning wrote a b mode level (shape ++ pending_items items entries) after (pending_items items left)
  pub levels : after ≡ level + opened
  pub count : length left ≡ length entries + opened
  pub need : pending_need nesting left ≤ need_above nesting depth entries

-- Of an entry and those that wait, a beginning was written, from one level to another. Other entries wait then, and less is left to write.
pub record EntryGoesOn {Entry O : Type 0} (items : Entry → List Item) (nesting : Entry → ℕ) (wrote : O → List ℕ → O → Type 0) (a b : O)
    (mode : Option (List ℕ)) (level after : ℕ) (entry : Entry) (entries left : List Entry) : Type 0 where
  pub written : WritesBeginning wrote a b mode level (items entry ++ pending_items items entries) after (pending_items items left)
  pub levels : after + length entries + 1 ≡ level + length left
  pub need : pending_need nesting left ≤ pending_need nesting (entries ++ entry ∷ [])
  pub less : length (pending_items items left) < length (items entry) + length (pending_items items entries)
