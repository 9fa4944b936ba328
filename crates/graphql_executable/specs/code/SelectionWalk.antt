-- What is still to be written of selection sets, for a writer that goes through them by a stack, and how far it has come.
use Rattle.std.specs.Prelude.{◌≡◌, ℕ, ◌+◌, ◌≤◌, ◌<◌, ◌^◌, List, [], ◌∷◌, ◌++◌, length, Option, Bool, false}
use Rattle.graphql_text.specs.code.Groups.{curly_rest}
use Rattle.graphql_text.specs.layout.Layout.{Item, raises, lowers}
use Rattle.graphql_text.specs.layout.Levels.{Fits}
use Rattle.graphql_text.specs.code.PendingStack.{EntryGoesOn, OpensAbove, need_above, pending_items, pending_need}
use Rattle.graphql_text.specs.code.Stack.{IsReady, stack_entries, stack_room}
use Rattle.graphql_text.specs.code.Writing.{WritesBeginning, WritesItems}
use Rattle.graphql_values.specs.code.Stacks.{AreKept}
use Rattle.graphql_executable.specs.trees.ExecutableTrees.{selection_trees}
use Rattle.graphql_executable.specs.kinds.Selections.{SelectionTree, SelectionTrees, field_selection, spread_selection, inline_selection}
use Rattle.graphql_executable.specs.kinds.Selections.{no_selections, more_selections, has_selections, selection_shape, selections_shapes}
use Rattle.graphql_executable.specs.kinds.Selections.{selection_nesting, selection_set_nesting}
use Rattle.graphql_executable.specs.declared.stacks.ExecutableStacks.{ExecutableStacks}
use Rattle.graphql_executable.specs.declared.stacks.SelectionEntry.{SelectionEntry}

-- what is left of an open set: its selections, and its end
abbrev pub entry_items : SelectionEntry → List Item
entry_items entry = curly_rest (selections_shapes (selection_trees entry.rest.now))

abbrev pub entry_nesting : SelectionEntry → ℕ
entry_nesting entry = selection_set_nesting (selection_trees entry.rest.now)

-- what is left of all that are open, the last one first
abbrev pub stack_items : List SelectionEntry → List Item
stack_items = pending_items entry_items

-- how deep the groups in them stand, and so how many entries the stack may come to hold, these among them
abbrev pub stack_need : List SelectionEntry → ℕ
stack_need = pending_need entry_nesting

-- the same while something that nests so deep is written above them
abbrev pub need_with : ℕ → List SelectionEntry → ℕ
need_with = need_above entry_nesting

-- by how much the beginning of a set, and of a selection, raises the level
abbrev pub set_level : SelectionTrees → ℕ
set_level no_selections = 0
set_level (more_selections selection more) = 1

abbrev pub opened_level : SelectionTree → ℕ
opened_level (field_selection head set) = set_level set
opened_level (spread_selection fragment) = 0
opened_level (inline_selection head set) = set_level set

-- whether there are selections within a selection, which wait while it is written
abbrev pub has_set : SelectionTree → Bool
has_set (field_selection head set) = has_selections set
has_set (spread_selection fragment) = false
has_set (inline_selection head set) = has_selections set

-- There is room: for values that nest so deep on their empty stack, and for so many entries on that of selections, where some wait.
pub record HaveRoom (stacks : ExecutableStacks) (nesting entries : ℕ) : Type 0 where
  pub values : IsReady stacks.definitions.values nesting
  pub types : IsReady stacks.definitions.types 0
  pub selections : entries ≤ stack_room stacks.selections

-- The stacks of values and types are empty again, and no room was lost on any.
pub record LoseNoRoom (a b : ExecutableStacks) : Type 0 where
  pub definitions : AreKept a.definitions b.definitions
  pub selections : stack_room a.selections ≤ stack_room b.selections

-- What nests so deep may be begun at a level, while others wait.
pub record CanOpen (level : ℕ) (stacks : ExecutableStacks) (nesting : ℕ) : Type 0 where
  pub fits : Fits level nesting
  pub room : HaveRoom stacks nesting (need_with nesting (stack_entries stacks.selections))

-- It was begun, and so written up to what is within it, which waits now too. It raises the level by so much, and nests so deep.
abbrev pub Opens : {O : Type 0} → (O → List ℕ → O → Type 0) → O → O → Option (List ℕ) → ℕ → ℕ → List Item → ℕ → ℕ → List SelectionEntry →
    List SelectionEntry → Type 0
Opens wrote = OpensAbove entry_items entry_nesting wrote

-- The same of a selection.
abbrev pub OpensSelection : {O : Type 0} → (O → List ℕ → O → Type 0) → O → O → Option (List ℕ) → ℕ → ℕ → SelectionTree →
    List SelectionEntry → List SelectionEntry → Type 0
OpensSelection wrote a b mode level after selection =
    Opens wrote a b mode level after (selection_shape selection) (opened_level selection) (selection_nesting selection)

-- The next entry may be written from a level on: there is room for what will wait, the levels can be counted, and the entry is open.
pub record CanGoOn (level : ℕ) (stacks : ExecutableStacks) (entry : SelectionEntry) : Type 0 where
  pub room : let need = stack_need (stack_entries stacks.selections ++ entry ∷ []) in HaveRoom stacks need need
  pub fits : level + entry_nesting entry ≤ 2 ^ 64
  pub inside : 0 < level

-- Of an entry and those that wait, a beginning was written, from one level to another.
abbrev pub GoesOn : {O : Type 0} → (O → List ℕ → O → Type 0) → O → O → Option (List ℕ) → ℕ → ℕ → SelectionEntry → List SelectionEntry →
    List SelectionEntry → Type 0
GoesOn wrote = EntryGoesOn entry_items entry_nesting wrote

-- All that waits may be written from a level on.
pub record CanFinish (level : ℕ) (stacks : ExecutableStacks) : Type 0 where
  pub room : let need = stack_need (stack_entries stacks.selections) in HaveRoom stacks need need
  pub fits : level + stack_need (stack_entries stacks.selections) < 2 ^ 64 + length (stack_entries stacks.selections)
  pub inside : length (stack_entries stacks.selections) ≤ level

-- Whatever was begun up to b, so that this is left of it, is written whole up to c.
abbrev pub Finishes : {O : Type 0} → (O → List ℕ → O → Type 0) → O → O → Option (List ℕ) → ℕ → List Item → Type 0
Finishes {O} wrote b c mode after rest =
    (first : O) (level : ℕ) (all : List Item) → WritesBeginning wrote first b mode level all after rest → raises all ≡ lowers all →
    WritesItems wrote first c mode level all
