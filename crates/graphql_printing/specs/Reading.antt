-- The document that a run reads.
use Rattle.std.specs.Prelude.{◌≡◌, ℕ, List, Option, IfSome, IsTrue, ◌||◌}
use Rattle.graphql_ast.specs.Documents.{document_kind}
use Rattle.ast_json_nodes.specs.declared.read.Unknown.{Unknown}
use Rattle.graphql_ast_json.specs.kinds.DocumentJson.{IsDocument}
use Rattle.graphql_ast_calls.specs.Answers.{IsJsonOf}
use Rattle.graphql_printing.specs.declared.options.Options.{Options}

-- The bytes are all that a reader had left, where that is known.
abbrev pub IsAllOf : Option (List ℕ) → List ℕ → Type 0
IsAllOf left bytes = IfSome left (λ known. bytes ≡ known)

-- The bytes are JSON of the document, and of no other, by a reading that refuses what is unknown or passes over it.
abbrev pub IsDocumentOf : Unknown → List ℕ → document_kind.Tree → Type 0
IsDocumentOf unknown bytes tree = IsJsonOf (IsDocument unknown) bytes tree

-- All that a reader had left is JSON of the document, and of no other.
pub record Reads (options : Options) (left : Option (List ℕ)) (tree : document_kind.Tree) : Type 0 where
  pub bytes : List ℕ
  pub all : IsAllOf left bytes
  pub is : IsDocumentOf options.unknown bytes tree

-- It is well formed, unless others are taken too.
abbrev pub Passes : Options → document_kind.Tree → Type 0
Passes options tree = IsTrue (options.allow_ill_formed || document_kind.obeys tree)
