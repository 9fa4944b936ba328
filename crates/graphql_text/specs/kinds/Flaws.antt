-- What is wrong with a tree that isn't well formed: its flaws, in the order of print.
use Rattle.std.specs.Prelude.{◌≡◌, List, [], ◌∷◌, Bool, true, false, Option, Some, None}
use Rattle.graphql_text.specs.lexical.Literals.{NameText}
use Rattle.graphql_text.specs.declared.ill_formed.SideCondition.{SideCondition}

-- A side condition that is broken, and the name that breaks it, or else that of what breaks it, if it has one.
pub record Flaw : Type 0 where
  pub condition : SideCondition
  pub name : Option NameText

-- the flaw of something, unless it passes the test of a side condition
abbrev pub flaw_unless : Bool → SideCondition → Option NameText → List Flaw
flaw_unless true condition name = []
flaw_unless false condition name = record { condition = condition; name = name } ∷ []

abbrev pub first_flaw : List Flaw → Option Flaw
first_flaw [] = None
first_flaw (flaw ∷ more) = Some flaw

abbrev pub has_no_flaw : List Flaw → Bool
has_no_flaw [] = true
has_no_flaw (flaw ∷ more) = false

-- The test holds of the parts without flaws, and of no other.
abbrev pub TellsFlaws : {A : Type 0} → (A → Bool) → (A → List Flaw) → Type 0
TellsFlaws {A} obeys flaws = (part : A) → obeys part ≡ has_no_flaw (flaws part)
