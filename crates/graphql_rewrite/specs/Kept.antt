-- What no rewriting changes besides: the locations of what is made anew, and the sources of a document.
use Rattle.std.specs.Prelude.{ℕ, List, [], ◌∷◌, Option, map}
use Rattle.graphql_base.specs.declared.span.FileId.{FileId}
use Rattle.graphql_base.specs.declared.span.SourceSpan.{SourceSpan}
use Rattle.graphql_ast.specs.DefinitionQueries.{definition_location}
use Rattle.graphql_ast.specs.Sources.{document_sources}
use Rattle.graphql_ast.specs.declared.document.Document.{Document}

pub record Kept : Type 0 where
  -- of a selection or a definition its location, and of a document those of its definitions, in order
  pub locations : List (Option SourceSpan)
  -- of a document its source files, each with its id
  pub sources : List (FileId × (List ℕ × List ℕ))

-- of what has no location of its own
abbrev pub nothing : Kept
nothing = record { locations = []; sources = [] }

abbrev pub located : Option SourceSpan → Kept
located location = record { locations = location ∷ []; sources = [] }

abbrev pub document_kept : Document → Kept
document_kept document = record { locations = map definition_location document.definitions.items; sources = document_sources document }
