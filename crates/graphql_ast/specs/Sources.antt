-- The source texts of a document, which are no part of its tree.
use Rattle.std.specs.Prelude.{ℕ, List, map, string_bytes}
use Rattle.graphql_base.specs.declared.span.FileId.{FileId}
use Rattle.graphql_ast.specs.declared.document.Document.{Document}
use Rattle.graphql_ast.specs.declared.document.SourceFile.{SourceFile}

-- the path and the text of a source file
abbrev pub file_texts : SourceFile → List ℕ × List ℕ
file_texts file = (string_bytes file.path, string_bytes file.text)

-- the source files of a document, each with its id, in order
abbrev pub document_sources : Document → List (FileId × (List ℕ × List ℕ))
document_sources document = map (λ entry. (entry.0, file_texts entry.1)) document.sources.entries
