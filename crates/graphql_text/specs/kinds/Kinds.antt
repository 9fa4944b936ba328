-- Kinds of trees: what is printed, how it is laid out, and the grammar that reads it.
use Rattle.std.specs.Prelude.{ℕ, List, Bool, Option}
use Rattle.graphql_text.specs.grammar.Forms.{Form}
use Rattle.graphql_text.specs.kinds.Flaws.{Flaw}
use Rattle.graphql_text.specs.layout.Layout.{Item, is_broken, is_front, layout}

-- A kind of trees.
pub record Kind : Type 1 where
  -- its trees, without locations
  pub Tree : Type 0
  -- the grammar: the tokens from a place on, and those that follow the tree
  pub form : Tree → Form
  -- the side conditions
  pub obeys : Tree → Bool
  -- what breaks them, in the order of print
  pub flaws : Tree → List Flaw
  -- the items of a tree: told whether the layout is broken, and whether no prefix is written before the tree
  pub shape : Bool → Bool → Tree → List Item
  -- the nesting depth of a tree's groups
  pub nesting : Tree → ℕ

-- The text of a tree: under a prefix, or on one line, from a starting level.
abbrev pub layout_of : (kind : Kind) → Option (List ℕ) → ℕ → kind.Tree → List ℕ
layout_of kind mode level tree = layout mode level (kind.shape (is_broken mode) (is_front mode level) tree)
