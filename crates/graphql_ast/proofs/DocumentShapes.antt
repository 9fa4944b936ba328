-- The layout of documents, and the room that it needs on the stacks.
use Rattle.std.specs.List.{list_any}
use Rattle.std.proofs.Common.{◌||◌, ℕ, ◌≡◌, ◌≤◌, Bool, true, false, if◌then◌else◌, List, [], ◌∷◌, arith, refl}
use Rattle.graphql_text.specs.parts.Greatest.{greatest}
use Rattle.graphql_text.specs.declared.place.Place.{Place}
use Rattle.graphql_executable.specs.code.ExecutableStacks.{AreAllKept}
use Rattle.graphql_executable.specs.declared.stacks.ExecutableStacks.{ExecutableStacks}
use Rattle.graphql_ast.specs.AstStacks.{CanWriteAst, definition_list_depth, has_selections, selection_depth}
use Rattle.graphql_ast.specs.Definitions.{DefinitionTree, definition_kind}

-- what may be written with some stacks may be written with others that have as much room
can_write_less : {place : Place} {s : ExecutableStacks} {n m l k d e : ℕ} → n ≤ m → l ≤ k → d ≤ e → CanWriteAst place s m k e → CanWriteAst place s n l d
can_write_less a b c ready =
    let definition = ready.definition in
    record {
      definition = record {
        fits = omega (arith, a, definition.fits);
        values = record { entries = definition.values.entries; room = omega (arith, a, definition.values.room) };
        types = record { entries = definition.types.entries; room = omega (arith, b, definition.types.room) };
      };
      selections = record { entries = ready.selections.entries; room = omega (arith, c, ready.selections.room) };
    }

pub can_write_again : {place : Place} {s t : ExecutableStacks} {n l d : ℕ} → AreAllKept s t → CanWriteAst place s n l d → CanWriteAst place t n l d
can_write_again kept ready =
    let definition = ready.definition in
    let definitions = kept.definitions in
    record {
      definition = record {
        fits = definition.fits;
        values = record { entries = definitions.values.entries; room = omega (arith, definitions.values.room, definition.values.room) };
        types = record { entries = definitions.types.entries; room = omega (arith, definitions.types.room, definition.types.room) };
      };
      selections = record { entries = kept.selections.entries; room = omega (arith, kept.selections.room, ready.selections.room) };
    }

-- the first of some definitions, and those behind it
module _ {place : Place} {s : ExecutableStacks} (definition : DefinitionTree) (more : List DefinitionTree) where
  pub can_write_first : CanWriteAst place s (greatest definition_kind.nesting (definition ∷ more))
      (greatest definition_list_depth (definition ∷ more)) (greatest selection_depth (definition ∷ more)) →
      CanWriteAst place s (definition_kind.nesting definition) (definition_list_depth definition) (selection_depth definition)
  can_write_first ready = can_write_less (omega arith) (omega arith) (omega arith) ready

  pub can_write_more : CanWriteAst place s (greatest definition_kind.nesting (definition ∷ more))
      (greatest definition_list_depth (definition ∷ more)) (greatest selection_depth (definition ∷ more)) →
      CanWriteAst place s (greatest definition_kind.nesting more) (greatest definition_list_depth more) (greatest selection_depth more)
  can_write_more ready = can_write_less (omega arith) (omega arith) (omega arith) ready

-- selection sets stand in one another no deeper than definitions nest
within_nesting : (has : Bool) (n : ℕ) → (if has then n else 0) ≤ n
within_nesting true n = omega arith
within_nesting false n = omega arith

pub selections_within : (definitions : List DefinitionTree) → greatest selection_depth definitions ≤ greatest definition_kind.nesting definitions
selections_within [] = omega arith
selections_within (definition ∷ more) =
    omega (arith, within_nesting (has_selections definition.name) (definition_kind.nesting definition), selections_within more)

-- and where no definition has selections, there are none
by_first : (definition : DefinitionTree) (more : List DefinitionTree) →
    (list_any (λ tree. has_selections tree.name) more ≡ false → greatest selection_depth more ≡ 0) →
    (has : Bool) → has_selections definition.name ≡ has → (has || list_any (λ tree. has_selections tree.name) more) ≡ false →
    greatest selection_depth (definition ∷ more) ≡ 0
by_first definition more rest true is none = cc
by_first definition more rest false is none = rw is (omega (arith, rest none))

pub no_selections_within : (definitions : List DefinitionTree) → list_any (λ tree. has_selections tree.name) definitions ≡ false →
    greatest selection_depth definitions ≡ 0
no_selections_within [] none = refl
no_selections_within (definition ∷ more) none = by_first definition more (no_selections_within more) (has_selections definition.name) refl none
