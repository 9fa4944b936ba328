-- Where JSON is of one kind of selections, and of none of that kind, it is of no selection. And selections go one by one.
use Rattle.std.proofs.Common.{ℕ, zero, suc, ◌<◌, List, [], ◌∷◌, ◌++◌, length, get_or, map, codes, refl, sym, subst, arith}
use Rattle.std.proofs.lemmas.List.{map-append}
use Rattle.graphql_executable.specs.trees.ExecutableTrees.{selection_tree, selection_trees}
use Rattle.graphql_executable.specs.kinds.Fields.{FieldTree}
use Rattle.graphql_executable.specs.kinds.InlineFragments.{InlineFragmentTree}
use Rattle.graphql_executable.specs.kinds.Selections.{SelectionTree, field_selection, spread_selection, inline_selection, SelectionTrees}
use Rattle.graphql_executable.specs.kinds.Selections.{no_selections, more_selections}
use Rattle.graphql_executable.specs.declared.selection.Selection.{Selection}
use Rattle.serde_json.specs.Data.{Data}
use Rattle.serde_json.specs.View.{items_of, items_view, view}
use Rattle.serde_json.specs.declared.value.Value as json
use Rattle.graphql_ast_json.specs.kinds.ExecutableJson.{AreSelections, IsField, IsInlineFragment, IsSelection}
use Rattle.graphql_ast_json.specs.lemmas.Leaves.{IsOfKind, different}
use Rattle.ast_json_nodes.specs.declared.read.Unknown.{Unknown}

pub only_field : (unknown : Unknown) (json : Data) → IsOfKind (codes "Field") json → ((field : FieldTree) → IsField unknown field json → ⊥) →
    (tree : SelectionTree) →
    IsSelection unknown tree json → ⊥
only_field unknown json e none (field_selection head set) is = none (record { head = head; selections = set }) is
only_field unknown json e none (spread_selection fragment) is = different (codes "FragmentSpread") (codes "Field") json is.0.0 e refl
only_field unknown json e none (inline_selection head set) is = different (codes "InlineFragment") (codes "Field") json is.0.0 e refl

pub only_inline_fragment : (unknown : Unknown) (json : Data) → IsOfKind (codes "InlineFragment") json →
    ((fragment : InlineFragmentTree) → IsInlineFragment unknown fragment json → ⊥) → (tree : SelectionTree) → IsSelection unknown tree json → ⊥
only_inline_fragment unknown json e none (inline_selection head set) is = none (record { head = head; selections = set }) is
only_inline_fragment unknown json e none (field_selection head set) is = different (codes "Field") (codes "InlineFragment") json is.0.0 e refl
only_inline_fragment unknown json e none (spread_selection fragment) is = different (codes "FragmentSpread") (codes "InlineFragment") json is.0.0 e refl

-- one more selection
pub selections_more : (unknown : Unknown) (selections : List Selection) (jsons : List Data) (selection : Selection) (json : Data) →
    AreSelections unknown (selection_trees selections) (items_of jsons) → IsSelection unknown (selection_tree selection) json →
    AreSelections unknown (selection_trees (selections ++ selection ∷ [])) (items_of (jsons ++ json ∷ []))
selections_more unknown [] [] selection json are is = (is, tt)
selections_more unknown (first ∷ selections) (one ∷ jsons) selection json are is = (are.0, selections_more unknown selections jsons selection json are.1 is)
selections_more unknown [] (one ∷ jsons) selection json are is = absurd are
selections_more unknown (first ∷ selections) [] selection json are is = absurd are

-- the same of values that are written
pub selections_more_written : (unknown : Unknown) (selections : List Selection) (jsons : List json.Value) (selection : Selection) (json : json.Value) →
    AreSelections unknown (selection_trees selections) (items_view jsons) → IsSelection unknown (selection_tree selection) (view json) →
    AreSelections unknown (selection_trees (selections ++ selection ∷ [])) (items_view (jsons ++ json ∷ []))
selections_more_written unknown selections jsons selection json are is =
    subst (λ (ds : List Data). AreSelections unknown (selection_trees (selections ++ selection ∷ [])) (items_of ds)) (sym (map-append view jsons (json ∷ [])))
    (selections_more unknown selections (map view jsons) selection (view json) are is)

-- each item is a selection, so where one is none, they are no selections
pub none_at : (unknown : Unknown) (items : List Data) (i : ℕ) (item : Data) → i < length items →
    ((tree : SelectionTree) → IsSelection unknown tree (get_or items i item) → ⊥) → (trees : SelectionTrees) →
    AreSelections unknown trees (items_of items) → ⊥
none_at unknown [] i item lt none trees are = absurd (omega arith)
none_at unknown (first ∷ items) i item lt none no_selections are = are
none_at unknown (first ∷ items) zero item lt none (more_selections tree trees) are = none tree are.0
none_at unknown (first ∷ items) (suc i) item lt none (more_selections tree trees) are = none_at unknown items i item (omega arith) none trees are.1
