-- What is still to be written of a value: the entries of its stack, the last one first.
use Rattle.std.specs.Prelude.{ℕ, ◌+◌, ◌^◌, ◌<◌, ◌≤◌, Bool, List, [], ◌∷◌, ◌++◌, Option}
use Rattle.graphql_text.specs.lexical.Tokens.{lbracket, rbracket, lbrace, rbrace, Punctuation}
use Rattle.graphql_text.specs.layout.Layout.{Item, Word, Raise, is_broken}
use Rattle.graphql_text.specs.code.Groups.{comma_rest}
use Rattle.graphql_text.specs.code.PendingStack.{EntryGoesOn, OpensAbove, need_above, pending_items, pending_need}
use Rattle.graphql_values.specs.kinds.Values.{ValueTree, more_values, more_fields, list_value, object_value, value_shape, values_shapes}
use Rattle.graphql_values.specs.kinds.Values.{object_fields_shapes, value_nesting, values_nesting, object_fields_nesting}
use Rattle.graphql_values.specs.trees.ValueTrees.{value_trees, object_field_trees}
use Rattle.graphql_values.specs.declared.value.print.ValueEntry.{ValueEntry}
use Rattle.graphql_values.specs.declared.value.print.ValueEntry.TheVariants.{Items, Fields}

-- what is written of a value before what is in it
abbrev pub opening : Bool → ValueTree → List Item
opening broken (list_value (more_values _ _)) = Word (Punctuation lbracket) ∷ Raise ∷ []
opening broken (object_value (more_fields _ _ _)) = Word (Punctuation lbrace) ∷ Raise ∷ []
opening broken value = value_shape broken value

-- the bracket in it, where the value holds something
abbrev pub opening_word : ValueTree → List Item
opening_word (list_value (more_values _ _)) = Word (Punctuation lbracket) ∷ []
opening_word (object_value (more_fields _ _ _)) = Word (Punctuation lbrace) ∷ []
opening_word _ = []

-- by how much that raises the level
abbrev pub opened_level : ValueTree → ℕ
opened_level (list_value (more_values _ _)) = 1
opened_level (object_value (more_fields _ _ _)) = 1
opened_level _ = 0

abbrev pub entry_items : Bool → ValueEntry → List Item
entry_items broken (Items rest is_first) = comma_rest rbracket broken is_first (values_shapes broken (value_trees rest.now))
entry_items broken (Fields rest is_first) = comma_rest rbrace broken is_first (object_fields_shapes broken (object_field_trees rest.now))

abbrev pub entry_nesting : ValueEntry → ℕ
entry_nesting (Items rest is_first) = values_nesting (value_trees rest.now)
entry_nesting (Fields rest is_first) = object_fields_nesting (object_field_trees rest.now)

-- what is left of all that are open, the last one first
abbrev pub stack_items : Bool → List ValueEntry → List Item
stack_items broken = pending_items (entry_items broken)

-- how many entries the stack may come to hold, these among them
abbrev pub stack_need : List ValueEntry → ℕ
stack_need = pending_need entry_nesting

-- how many there may come to be while a value is written above them
abbrev pub need_with : ValueTree → List ValueEntry → ℕ
need_with value = need_above entry_nesting (value_nesting value)

-- A value was begun, and so written up to what is in it, which waits now too.
abbrev pub OpensValue : {O : Type 0} → (O → List ℕ → O → Type 0) → O → O → Option (List ℕ) → ℕ → ℕ → ValueTree → List ValueEntry → List ValueEntry → Type 0
OpensValue wrote a b mode level after value =
    let broken = is_broken mode in
    OpensAbove (entry_items broken) entry_nesting wrote a b mode level after (value_shape broken value) (opened_level value) (value_nesting value)

-- The next entry may be written from a place on: there is room for what will wait, the levels can be counted, and the entry is open.
pub record CanGoOn (level capacity : ℕ) (entries : List ValueEntry) (entry : ValueEntry) : Type 0 where
  pub room : stack_need (entries ++ entry ∷ []) ≤ capacity
  pub fits : level + entry_nesting entry ≤ 2 ^ 64
  pub inside : 0 < level

-- Of an entry and those that wait, a beginning was written, from one level to another.
abbrev pub GoesOn : {O : Type 0} → (O → List ℕ → O → Type 0) → O → O → Option (List ℕ) → ℕ → ℕ → ValueEntry → List ValueEntry → List ValueEntry → Type 0
GoesOn wrote a b mode = EntryGoesOn (entry_items (is_broken mode)) entry_nesting wrote a b mode
