use Rattle.std.proofs.Common.{◌≡◌, List, [], ◌∷◌, map, refl, ap₂, rules}
use Rattle.std.specs.List.{AllZip}
use Rattle.std.proofs.lemmas.List.Elements.{same_from_all_zip}
use Rattle.graphql_ast.specs.AstTrees.{definition_trees}
use Rattle.graphql_ast.specs.Sources.{document_sources}
use Rattle.graphql_ast.specs.contracts.definition.DefinitionClone.TheImpl as definition
use Rattle.graphql_ast.proofs.laws.comparisons.clones_are_the_same.Goals as goal

module _ {A B : Type 0} (R : A → A → Type 0) (f : A → B) (same : (x y : A) → R x y → f y ≡ f x) where
  mapped_alike : (xs ys : List A) → AllZip R xs ys → map f ys ≡ map f xs
  mapped_alike [] [] e = refl
  mapped_alike [] (y ∷ ys) e = elim e [ ]
  mapped_alike (x ∷ xs) [] e = elim e [ ]
  mapped_alike (x ∷ xs) (y ∷ ys) e = ap₂ (λ t ts. t ∷ ts) (same x y e.0) (mapped_alike xs ys e.1)

pub returns-clause-documents : goal.returns-clause-documents
returns-clause-documents c = λ a b same.
    let sources : document_sources b ≡ document_sources a =
    mapped_alike _ _ (λ p q e. ap₂ (λ id texts. (id, texts)) e.0 (ap₂ (λ path text. (path, text)) e.1.0 e.1.1)) a.sources.entries b.sources.entries same.0 in
    let definitions : b.definitions.items ≡ a.definitions.items =
    same_from_all_zip definition.ghosts.is_clone _ _ same.1.0 (λ n m e. search rules) in
    λ i. (sources i, (definitions i, definition_trees (definitions i)))
