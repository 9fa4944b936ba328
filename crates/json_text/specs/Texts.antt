-- What is written of JSON: its text without white space.
use Rattle.std.specs.Prelude.{◌≡◌, ℕ, List, [], ◌∷◌, ◌++◌, Bool, Option, Some, None, false, true, ⊤}
use Rattle.json.specs.Tree.{HasNumbers}
use Rattle.serde_json.specs.Data.{Data, Items, no_items, item, Members, member}
use Rattle.serde_json.specs.Read.{of_json}
use Rattle.serde_json.specs.Written.{compact_text, has_float, outline}

-- A value of `serde_json` without a float may be this: of each object the members stand in the order of their names, each once, and numbers fit.
pub record IsPlain (json : Data) : Type 0 where
  pub no_float : has_float json ≡ false
  pub same : of_json (outline json) ≡ Some json
  pub numbers : HasNumbers (outline json)

abbrev pub ArePlain : Items → Type 0
ArePlain no_items = ⊤
ArePlain (item json more) = IsPlain json × ArePlain more

-- From a to b the text of some JSON was written, and it is such.
pub record WritesJson {O : Type 0} (wrote : O → List ℕ → O → Type 0) (a b : O) (Is : Data → Type 0) : Type 0 where
  pub json : Data
  pub text : wrote a (compact_text json) b
  pub plain : IsPlain json
  pub is : Is json

-- the text of items behind another, each with a comma before it
abbrev pub later_text : Items → List ℕ
later_text no_items = []
later_text (item json more) = 44 ∷ (compact_text json ++ later_text more)

-- the text of items, with commas between them
abbrev pub between : Items → List ℕ
between no_items = []
between (item json more) = compact_text json ++ later_text more

abbrev pub has_items : Items → Bool
has_items no_items = false
has_items (item json more) = true

-- a member before others, if it is there
abbrev pub optional_member : List ℕ → Option Data → Members → Members
optional_member name None members = members
optional_member name (Some json) members = member name json members

-- the text of JSON between these two, if it is there
abbrev pub optional_text : List ℕ → Option Data → List ℕ → List ℕ
optional_text before None after = []
optional_text before (Some json) after = before ++ (compact_text json ++ after)
