-- Of Operations: each operation between the fragments that it reaches.
use Rattle.std.proofs.Common.{◌≡◌, ℕ, ◌+◌, ◌<◌, ◌≤◌, List, [], ◌∷◌, ◌++◌, length, get_or, take, drop, map, refl, ap, ap₂, sym, ◌∙◌, append-nil}
use Rattle.std.proofs.Math.ListN.{drop_of_length-le}
use Rattle.std.specs.Prelude.{cond, filter}
use Rattle.std.proofs.lemmas.List.{append_assoc, map-append, take_more}
use Rattle.graphql_text.specs.lexical.Literals.{NameText}
use Rattle.graphql_ast.specs.AstTrees.{definition_tree, definition_trees, document_tree}
use Rattle.graphql_ast.specs.Definitions.{DefinitionTree}
use Rattle.graphql_ast.specs.Sources.{document_sources}
use Rattle.graphql_base.specs.declared.span.FileId.{FileId}
use Rattle.graphql_ast.specs.declared.definition.Definition.{Definition}
use Rattle.graphql_ast.specs.declared.document.Document.{Document}
use Rattle.graphql_visit.proofs.Steps.{drop_at}
use Rattle.graphql_operations.specs.Fragments.{is_fragment_of, reached_from, spreads_within}
use Rattle.graphql_operations.specs.Names.{AreSame}
use Rattle.graphql_operations.specs.Operations.{HaveSources, between, is_operation, separated, separated_behind}
use Rattle.graphql_operations.proofs.Reached.{fragments_same}

pub between_is : (definitions first more before all : List Definition) (operation : Definition) (names : List NameText) →
    AreSame names (reached_from (definition_trees definitions) (spreads_within (definition_tree operation))) →
    definition_trees before ≡ filter (is_fragment_of names) (definition_trees first) →
    definition_trees all ≡ definition_trees (before ++ operation ∷ []) ++ filter (is_fragment_of names) (definition_trees more) →
    definition_trees all ≡ between (definition_trees definitions) (definition_trees first) (definition_tree operation) (definition_trees more)
between_is definitions first more before all operation names same before_is all_is =
    let tree : DefinitionTree = definition_tree operation in
    let reached : List NameText = reached_from (definition_trees definitions) (spreads_within tree) in
    all_is
    ∙ ap (λ l. l ++ filter (is_fragment_of names) (definition_trees more))
    (map-append definition_tree before (operation ∷ []) ∙ ap (λ l. l ++ tree ∷ []) before_is)
    ∙ append_assoc (filter (is_fragment_of names) (definition_trees first)) (tree ∷ []) (filter (is_fragment_of names) (definition_trees more))
    ∙ ap₂ (λ l m. l ++ tree ∷ m) (fragments_same names reached same (definition_trees first)) (fragments_same names reached same (definition_trees more))

module _ (definitions : List Definition) where
  -- with what is behind the first definitions it is all
  abbrev pub IsSeparatedUpTo : ℕ → List Document → Type 0
  IsSeparatedUpTo i made =
      map document_tree made
      ++ separated_behind (definition_trees definitions) (definition_trees (take i definitions)) (definition_trees (drop i definitions))
      ≡ separated (definition_trees definitions)

  pub separated_on : (i : ℕ) (x : Definition) (made more : List Document) → i < length definitions → x ≡ get_or definitions i x →
      map document_tree more ≡ map document_tree made
      ++ cond (is_operation (definition_tree x).name) (between (definition_trees definitions) (definition_trees (take i definitions)) (definition_tree x)
      (definition_trees (drop (i + 1) definitions)) ∷ []) [] →
      IsSeparatedUpTo i made → IsSeparatedUpTo (i + 1) more
  separated_on i x made more below is added so_far =
      let all : List DefinitionTree = definition_trees definitions in
      let first : List DefinitionTree = definition_trees (take i definitions) in
      let rest : List DefinitionTree = definition_trees (drop (i + 1) definitions) in
      let one : List (List DefinitionTree) = cond (is_operation (definition_tree x).name) (between all first (definition_tree x) rest ∷ []) [] in
      ap₂ (λ l m. l ++ separated_behind all m rest) added
      (ap definition_trees (take_more definitions i x below ∙ ap (λ y. take i definitions ++ y ∷ []) (sym is))
      ∙ map-append definition_tree (take i definitions) (x ∷ []))
      ∙ append_assoc (map document_tree made) one (separated_behind all (first ++ definition_tree x ∷ []) rest)
      ∙ ap (λ l. map document_tree made ++ separated_behind all first (definition_trees l))
      (sym (drop_at definitions i x below is))
      ∙ so_far

  pub all_separated : (i : ℕ) (made : List Document) → length definitions ≤ i → IsSeparatedUpTo i made →
      map document_tree made ≡ separated (definition_trees definitions)
  all_separated i made past so_far =
      sym (append-nil (map document_tree made))
      ∙ ap (λ l. map document_tree made ++ separated_behind (definition_trees definitions) (definition_trees (take i definitions)) (definition_trees l))
      (sym (drop_of_length-le definitions past))
      ∙ so_far

  pub none_separated : IsSeparatedUpTo 0 []
  none_separated = refl

module _ (sources : List (FileId × (List ℕ × List ℕ))) where
  pub sources_more : (documents : List Document) (made : Document) → document_sources made ≡ sources → HaveSources sources documents →
      HaveSources sources (documents ++ made ∷ [])
  sources_more documents made is so =
      map-append document_sources documents (made ∷ []) ∙ ap₂ (λ l x. l ++ x ∷ []) so is ∙ sym (map-append (λ _. sources) documents (made ∷ []))

  pub no_sources : HaveSources sources []
  no_sources = refl

pub ruleset separated_steps = (separated_on, all_separated, none_separated)
