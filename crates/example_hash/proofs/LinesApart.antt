-- Of Lines: two well-formed documents with one text are one document.
use Rattle.std.proofs.Common.{◌≡◌, IsTrue, None, subst}
use Rattle.graphql_ast.specs.Documents.{document_kind}
use Rattle.graphql_ast.specs.lemmas.Documents.{document_laws}
use Rattle.graphql_ast.specs.Reading.{ReadsAlone}
use Rattle.example_hash.specs.Lines.{line_of}

pub tells_apart : (tree other : document_kind.Tree) → IsTrue (document_kind.obeys tree) → IsTrue (document_kind.obeys other) →
    line_of other ≡ line_of tree → other ≡ tree
tells_apart tree other h k same =
    let mine : ReadsAlone document_kind (line_of tree) tree = document_laws.reads_alone tree None 0 h tt in
    let its : ReadsAlone document_kind (line_of other) other = document_laws.reads_alone other None 0 k tt in
    mine.alone other (subst (λ bytes. ReadsAlone document_kind bytes other) same its).itself
