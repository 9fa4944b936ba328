-- The text of a document on one line.
use Rattle.std.specs.Prelude.{ℕ, List, None, encode_utf8_all}
use Rattle.graphql_ast.specs.Documents.{document_kind}
use Rattle.graphql_ast.specs.Kinds.{layout_of}

-- its bytes
abbrev pub line_of : document_kind.Tree → List ℕ
line_of tree = encode_utf8_all (layout_of document_kind None 0 tree)
