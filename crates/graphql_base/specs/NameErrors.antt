-- Why a text is made no name, and when two such errors are the same.
use Rattle.std.specs.Prelude.{◌≡◌, ℕ, List, false, None, string_bytes, ⊤}
use Rattle.graphql_base.specs.Names.{is_name}
use Rattle.graphql_base.specs.declared.name.InvalidNameError.{InvalidNameError}
use Rattle.graphql_base.specs.declared.name.NameError.{NameError}
use Rattle.graphql_base.specs.declared.name.NameError.TheVariants.{Invalid, Memory}

-- `Invalid` is answered for a text outside the syntax alone, and holds that text and no location
abbrev pub IsRefusalOf : List ℕ → NameError → Type 0
IsRefusalOf text (Invalid error) = (is_name text ≡ false) × (string_bytes error.name ≡ text) × (error.location ≡ None)
IsRefusalOf text Memory = ⊤

-- the same text and the same location
abbrev pub AreSameInvalid : InvalidNameError → InvalidNameError → Type 0
AreSameInvalid a b = (string_bytes a.name ≡ string_bytes b.name) × (a.location ≡ b.location)

-- the same variant and the same fields
abbrev pub AreSameErrors : NameError → NameError → Type 0
AreSameErrors (Invalid a) (Invalid b) = AreSameInvalid a b
AreSameErrors Memory Memory = ⊤
AreSameErrors _ _ = ⊥
