-- Of Concatenations: the trees of definitions that stand one behind another.
use Rattle.std.proofs.Common.{◌≡◌, List, [], ◌∷◌, ◌++◌, refl, ap, sym, ◌∙◌}
use Rattle.std.specs.List.{flat_map}
use Rattle.std.proofs.lemmas.List.{map-append}
use Rattle.std.proofs.lemmas.List.Concat.{flat_map-cons}
use Rattle.graphql_ast.specs.AstTrees.{definition_tree, definition_trees, document_tree}
use Rattle.graphql_ast.specs.declared.definition.Definition.{Definition}
use Rattle.graphql_ast.specs.declared.document.Document.{Document}

abbrev definitions_of : Document → List Definition
definitions_of document = document.definitions.items

pub trees_of : (documents : List Document) → definition_trees (flat_map definitions_of documents) ≡ flat_map document_tree documents
trees_of [] = refl
trees_of (document ∷ documents) =
    ap definition_trees (flat_map-cons definitions_of document documents)
    ∙ map-append definition_tree (definitions_of document) (flat_map definitions_of documents)
    ∙ ap (λ trees. document_tree document ++ trees) (trees_of documents) ∙ sym (flat_map-cons document_tree document documents)
