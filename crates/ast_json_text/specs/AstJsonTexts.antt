-- What the text of a tree's AST JSON is.
use Rattle.std.specs.Prelude.{◌≡◌, ℕ, ◌≤◌, List, Some, false}
use Rattle.serde_json.specs.Data.{Data, depth}
use Rattle.serde_json.specs.Read.{max_depth, read}
use Rattle.serde_json.specs.Written.{IsInOrder, compact_text, has_float}
use Rattle.ast_json_nodes.specs.declared.read.Unknown.{Unknown}

-- The text is that of JSON of the tree, which tells where it stands: the text that a value of `serde_json` has which is this JSON, and is read as it.
pub record IsAstJsonText {Tree : Type 0} (Is : Unknown → Tree → Data → Type 0) (Stands : Data → Type 0) (tree : Tree) (text : List ℕ) : Type 0 where
  pub json : Data
  pub is : (unknown : Unknown) → Is unknown tree json
  pub stands : Stands json
  pub written : text ≡ compact_text json
  pub no_float : has_float json ≡ false
  pub read_back : depth json ≤ max_depth → read text ≡ Some json

-- The text is that of a value of `serde_json`, which is JSON of the tree, tells where it stands, and may have floats: its members stand in their order.
pub record IsValueText {Tree : Type 0} (Is : Unknown → Tree → Data → Type 0) (Stands : Data → Type 0) (tree : Tree) (text : List ℕ) : Type 0 where
  pub json : Data
  pub is : (unknown : Unknown) → Is unknown tree json
  pub stands : Stands json
  pub written : has_float json ≡ false → text ≡ compact_text json
  pub order : IsInOrder text json
  pub read_back : depth json ≤ max_depth → read text ≡ Some json
