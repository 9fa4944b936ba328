-- Members of nodes that are written.
use Rattle.std.specs.Prelude.{◌≡◌, ℕ, List, ◌++◌, MatchOption, Option, Some, ⊤, option_and_then}
use Rattle.serde_json.specs.Data.{Data}
use Rattle.serde_json.specs.Written.{compact_text}
use Rattle.ast_json_nodes.specs.nodes.Nodes.{present}
use Rattle.json_text.specs.Texts.{IsPlain, optional_text}

-- From a to b a key was written, and behind it the text of some JSON, which is such, and not null.
pub record WritesMember {O : Type 0} (wrote : O → List ℕ → O → Type 0) (a : O) (key : List ℕ) (b : O) (Is : Data → Type 0) : Type 0 where
  pub json : Data
  pub text : wrote a (key ++ compact_text json) b
  pub there : present json ≡ Some json
  pub plain : IsPlain json
  pub is : Is json

-- The same of JSON that may be there, and what stands behind it. Nothing was written if it isn't.
pub record WritesOptional {O : Type 0} (wrote : O → List ℕ → O → Type 0) (a : O) (key after : List ℕ) (b : O) (Is : Option Data → Type 0) : Type 0 where
  pub json : Option Data
  pub text : wrote a (optional_text key json after) b
  pub there : option_and_then present json ≡ json
  pub plain : MatchOption json ⊤ IsPlain
  pub is : Is json
