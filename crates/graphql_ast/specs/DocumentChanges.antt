-- What changes in a document.
use Rattle.std.specs.Prelude.{◌≡◌, [], ◌∷◌, ◌++◌}
use Rattle.graphql_ast.specs.declared.definition.Definition.{Definition}
use Rattle.graphql_ast.specs.declared.document.Document.{Document}

-- one definition more stands behind the others, of which P holds; the sources stay
abbrev pub Appends : (Definition → Type 0) → Document → Document → Type 0
Appends P before after =
    ((added : Definition) × P added × (after.definitions.items ≡ before.definitions.items ++ added ∷ [])) × (after.sources ≡ before.sources)

-- the same definitions and sources
abbrev pub IsUnchanged : Document → Document → Type 0
IsUnchanged before after = (after.definitions.items ≡ before.definitions.items) × (after.sources ≡ before.sources)
