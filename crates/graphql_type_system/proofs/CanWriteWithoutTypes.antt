-- Where no type stands in the parts of a definition, their list depth is 0, and no room is asked for on the stack of types.
use Rattle.std.proofs.Common.{◌≡◌, ℕ, List, [], ◌∷◌, arith, refl}
use Rattle.graphql_text.specs.parts.Greatest.{greatest}
use Rattle.graphql_text.specs.declared.place.Place.{Place}
use Rattle.graphql_values.specs.code.Stacks.{CanWriteDefinition}
use Rattle.graphql_values.specs.declared.stacks.Stacks.{Stacks}

pub no_lists : {A : Type 0} (parts : List A) → greatest (λ (part : A). 0) parts ≡ 0
no_lists [] = refl
no_lists (part ∷ more) = omega (arith, no_lists more)

pub can_write_no_lists : {A : Type 0} {place : Place} {stacks : Stacks} {nesting : ℕ} (parts : List A) →
    CanWriteDefinition place stacks nesting 0 → CanWriteDefinition place stacks nesting (greatest (λ (part : A). 0) parts)
can_write_no_lists parts ready = record {
  fits = ready.fits;
  values = ready.values;
  types = record { entries = ready.types.entries; room = omega (arith, no_lists parts, ready.types.room) };
}
