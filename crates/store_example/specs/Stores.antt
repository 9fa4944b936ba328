-- What it is to store a document, and for which trees there is nothing to store.
use Rattle.std.specs.Prelude.{◌≡◌, ◌++◌, List, [], ◌∷◌, IsTrue, string_bytes}
use Rattle.std.specs.declared.alloc.Global.{Global}
use Rattle.std.specs.declared.string.String.{String}
use Rattle.graphql_ast.specs.Documents.{document_kind}
use Rattle.graphql_ast.specs.Levels.{Overflows}
use Rattle.graphql_ast.specs.Reading.{ReadsAlone}

-- A text was put behind those that were stored, and GraphQL's grammar reads it as the tree, and as no other.
abbrev pub Stores : document_kind.Tree → List (String Global) → List (String Global) → Type 0
Stores tree old new = (text : String Global) × (new ≡ old ++ text ∷ []) × ReadsAlone document_kind (string_bytes text) tree

-- The tree is well formed, and its groups stand so deep in one another that 64 bits don't count them.
abbrev pub IsTooDeep : document_kind.Tree → Type 0
IsTooDeep tree = IsTrue (document_kind.obeys tree) × Overflows 0 (document_kind.nesting tree)
