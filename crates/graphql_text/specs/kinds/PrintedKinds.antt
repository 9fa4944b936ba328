-- What is promised of a kind of trees that is printed, for the type of the code whose values are its trees.
use Rattle.std.specs.Prelude.{◌≡◌, ℕ, Bool, List, Option}
use Rattle.graphql_text.specs.trees.Comparisons.{IsComparedBy, IsHashedAlike}
use Rattle.graphql_text.specs.grammar.Forms.{TokenClass}
use Rattle.graphql_text.specs.kinds.Kinds.{Kind}
use Rattle.graphql_text.specs.grammar.OneReading.{IsReadOneWay}
use Rattle.graphql_text.specs.parts.PrintedParts.{KindTokensDeriveBefore}
use Rattle.graphql_text.specs.kinds.Printing.{IsKind, IsReadWhereItObeys}
use Rattle.graphql_text.specs.kinds.Reading.{Laws}

-- the list depth of trees without types
abbrev pub no_types : {Tree : Type 0} → Tree → ℕ
no_types tree = 0

-- Of the type, as its impls say: the kind and the trees that are printed, the lists around its types, what is displayed, its equality and its
-- hash. Then the kind by its name, the trees and the lists. `excluded` is what may not follow a tree among tokens, `stop` what may not follow
-- one that was printed.
pub record IsPrintedKind {T H : Type 0} (printed : Kind) (printed_tree : T → printed.Tree) (printed_lists : printed.Tree → ℕ) (output : T → Option (List ℕ))
    (eq : T → T → Bool) (hash_input : T → H) (kind : Kind) (tree : T → kind.Tree) (lists : kind.Tree → ℕ) (excluded stop : List TokenClass) : Type 0 where
  -- what is printed of the type, and read as its trees, is what is printed and read of the kind
  pub is : IsKind printed printed_tree kind tree
  -- the stack of types needs room for so many lists
  pub stacked : (t : T) → printed_lists (printed_tree t) ≡ lists (tree t)
  -- a tree that obeys the side conditions is read back as that tree, and as no other; and all else that `Laws` says
  pub laws : Laws kind
  -- so is what is displayed of it
  pub displayed : (t : T) → IsReadWhereItObeys kind (output t) (tree t)
  -- among tokens it is read in one way, before what is not excluded
  pub one_way : IsReadOneWay kind.form excluded
  -- the words and strings of its layout derive it, at the front and behind something else
  pub derives : KindTokensDeriveBefore kind stop
  -- two are equal exactly if their trees are the same
  pub compared : IsComparedBy eq tree
  -- and what is equal is hashed alike
  pub hashed : IsHashedAlike eq hash_input
