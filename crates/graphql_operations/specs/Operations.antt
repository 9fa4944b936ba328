-- Each operation with the fragments that it reaches, in the order of the document.
use Rattle.std.specs.Prelude.{ℕ, ◌≡◌, map, List, [], ◌∷◌, ◌++◌, Bool, true, false, cond, filter}
use Rattle.graphql_ast.specs.Definitions.{DefinitionName, DefinitionTree}
use Rattle.graphql_ast.specs.Definitions as name
use Rattle.graphql_ast.specs.Sources.{document_sources}
use Rattle.graphql_ast.specs.declared.document.Document.{Document}
use Rattle.graphql_base.specs.declared.span.FileId.{FileId}
use Rattle.graphql_operations.specs.Fragments.{is_fragment_of, reached_from, spreads_within}

abbrev pub is_operation : DefinitionName → Bool
is_operation name.OperationDefinition = true
is_operation definition = false

module _ (definitions : List DefinitionTree) where
  -- those of these that an operation reaches
  abbrev pub reached_by : DefinitionTree → List DefinitionTree → List DefinitionTree
  reached_by operation = filter (is_fragment_of (reached_from definitions (spreads_within operation)))

  -- an operation between the fragments before and behind it that it reaches
  abbrev pub between : List DefinitionTree → DefinitionTree → List DefinitionTree → List DefinitionTree
  between first operation more = reached_by operation first ++ operation ∷ reached_by operation more

  -- so each of the definitions behind the first ones that is an operation
  abbrev pub separated_behind : List DefinitionTree → List DefinitionTree → List (List DefinitionTree)
  separated_behind first [] = []
  separated_behind first (definition ∷ more) =
      cond (is_operation definition.name) (between first definition more ∷ []) [] ++ separated_behind (first ++ definition ∷ []) more

-- documents that have these sources, each of them
abbrev pub HaveSources : List (FileId × (List ℕ × List ℕ)) → List Document → Type 0
HaveSources sources documents = map document_sources documents ≡ map (λ _. sources) documents

abbrev pub separated : List DefinitionTree → List (List DefinitionTree)
separated definitions = separated_behind definitions [] definitions
