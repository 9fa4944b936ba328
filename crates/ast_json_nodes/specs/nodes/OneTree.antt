-- Laws of the relation between trees and JSON.
use Rattle.std.specs.Prelude.{◌≡◌, ℕ, List}
use Rattle.serde_json.specs.Data.{Data, null}
use Rattle.ast_json_nodes.specs.declared.read.Unknown.{Unknown}
use Rattle.ast_json_nodes.specs.nodes.Nodes.{IsNode}

-- A JSON is of at most one of these.
abbrev pub IsOfOneTree : {Tree : Type 0} → (Tree → Data → Type 0) → Type 0
IsOfOneTree {Tree = Tree} Is = (a b : Tree) (json : Data) → Is a json → Is b json → a ≡ b

-- Null is of none of these.
abbrev pub IsNeverNull : {Tree : Type 0} → (Tree → Data → Type 0) → Type 0
IsNeverNull {Tree = Tree} Is = (tree : Tree) → Is tree null → ⊥

-- a node of this kind, whatever its members
pub record IsNodeOf (unknown : Unknown) (kind : List ℕ) (json : Data) : Type 0 where
  pub names : List (List ℕ)
  pub is : IsNode unknown kind names json

pub record IsAnyNode (unknown : Unknown) (json : Data) : Type 0 where
  pub kind : List ℕ
  pub node : IsNodeOf unknown kind json

-- Of whatever reading: a JSON is of one tree at most, and null of none.
pub record JsonLaws {Tree : Type 0} (Is : Unknown → Tree → Data → Type 0) : Type 0 where
  pub one_tree : (unknown : Unknown) → IsOfOneTree (Is unknown)
  pub never_null : (unknown : Unknown) → IsNeverNull (Is unknown)

-- Of whatever reading: a JSON is of one tree at most, and is a node.
pub record NodeLaws {Tree : Type 0} (Is : Unknown → Tree → Data → Type 0) : Type 0 where
  pub one_tree : (unknown : Unknown) → IsOfOneTree (Is unknown)
  pub node : (unknown : Unknown) (tree : Tree) (json : Data) → Is unknown tree json → IsAnyNode unknown json
