-- Why a text is made no int and no float.
use Rattle.std.specs.Prelude.{◌≡◌, ℕ, List, Bool, false, string_bytes, ⊤}
use Rattle.graphql_values.specs.declared.literal.LiteralError.{LiteralError}
use Rattle.graphql_values.specs.declared.literal.LiteralError.TheVariants.{Invalid, Memory}

-- `Invalid` is answered for a text that isn't valid alone, and holds that text
abbrev pub IsRefusalOf : Bool → List ℕ → LiteralError → Type 0
IsRefusalOf is_valid text (Invalid refused) = (is_valid ≡ false) × (string_bytes refused ≡ text)
IsRefusalOf is_valid text Memory = ⊤
