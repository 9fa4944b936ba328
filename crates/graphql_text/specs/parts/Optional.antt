-- Parts that are there or not.
use Rattle.std.specs.Prelude.{ℕ, List, [], Bool, true, Option, Some, None}
use Rattle.graphql_text.specs.kinds.Flaws.{Flaw}
use Rattle.graphql_text.specs.layout.Layout.{Item}

-- Without the part there are no items and no groups, nothing is to be obeyed, and there are no flaws.
abbrev pub optional_shape : {A : Type 0} → (A → List Item) → Option A → List Item
optional_shape shape None = []
optional_shape shape (Some part) = shape part

abbrev pub optional_nesting : {A : Type 0} → (A → ℕ) → Option A → ℕ
optional_nesting nesting None = 0
optional_nesting nesting (Some part) = nesting part

abbrev pub optional_obeys : {A : Type 0} → (A → Bool) → Option A → Bool
optional_obeys obeys None = true
optional_obeys obeys (Some part) = obeys part

abbrev pub optional_flaws : {A : Type 0} → (A → List Flaw) → Option A → List Flaw
optional_flaws flaws None = []
optional_flaws flaws (Some part) = flaws part
