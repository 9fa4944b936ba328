-- The sources of documents that stand one behind another.
use Rattle.std.specs.Prelude.{◌==◌, List, [], fold}
use Rattle.indexmap.specs.IndexMap.{insert_all}
use Rattle.graphql_base.specs.Span.{file_number}
use Rattle.graphql_base.specs.declared.span.FileId.{FileId}
use Rattle.graphql_ast.specs.declared.document.Document.{Document}
use Rattle.graphql_ast.specs.declared.document.SourceFile.{SourceFile}

-- each file id where its first file stands, with its last one
abbrev pub joined_sources : List Document → List (FileId × SourceFile)
joined_sources =
    fold (λ files document. insert_all (λ one other. file_number one == file_number other) files document.sources.entries) []
