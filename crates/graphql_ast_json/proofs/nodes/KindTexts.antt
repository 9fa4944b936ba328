-- The text of a kind, as far as it tells kinds apart.
use Rattle.std.proofs.Common.{ℕ, List, [], ◌∷◌, Option, Some}
use Rattle.serde_json.specs.Data.{Data, string}

abbrev pub text_of : Option Data → List ℕ
text_of (Some (string text)) = text
text_of _ = []

-- kinds of values begin with letters of their own
abbrev pub initial : List ℕ → ℕ
initial [] = 0
initial (first ∷ more) = first

abbrev pub initial_of : Option Data → ℕ
initial_of (Some (string text)) = initial text
initial_of _ = 0
