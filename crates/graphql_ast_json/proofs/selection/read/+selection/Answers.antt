use Rattle.std.proofs.Common.{ℕ, ◌<◌, ◌≤◌, List, length, take, Option, Some, MatchOption, IsSomeAnd, codes, sym, ap, subst, subst₂, ◌∙◌, arith}
use Rattle.std.proofs.lemmas.Grind.{common_steps}
use Rattle.std.proofs.lemmas.List.{take_all}
use Rattle.serde_json.specs.Data.{Data, depth, items_depth, no_items, null, string}
use Rattle.serde_json.specs.View.{items_of}
use Rattle.parsed_json.specs.AnyJson.{any_data, item_datas}
use Rattle.graphql_executable.specs.trees.ExecutableTrees.{selection_trees}
use Rattle.graphql_executable.specs.kinds.InlineFragments.{InlineFragmentTree}
use Rattle.ast_json_nodes.specs.code.JsonNodes.{node_data}
use Rattle.ast_json_nodes.specs.code.Errors.{IsMemory}
use Rattle.graphql_ast_json.specs.kinds.ExecutableJson.{AreSelections, IsInlineFragment, IsSelection, IsSelectionSet}
use Rattle.graphql_ast_json.specs.lemmas.Leaves.{IsOfKind}
use Rattle.ast_json_nodes.proofs.nodes.JsonDepths.{item-depth}
use Rattle.ast_json_nodes.proofs.nodes.NodeLists.{take_item}
use Rattle.ast_json_nodes.proofs.general.PassedErrors.{passed, told, turned}
use Rattle.graphql_ast_json.proofs.kinds.SelectionJsonByKind.{none_at, only_field, only_inline_fragment, selections_more}
use Rattle.graphql_ast_json.proofs.selection.read.+selection.Goals as goal

pub selections-read_selection-requires : goal.selections-read_selection-requires
selections-read_selection-requires t c =
    let items = item_datas c.args.items in
    let within : c.loop-index.index < length items = omega (arith, c.len.ensures) in
    let deep : depth (any_data c.at-json.result) ≤ items_depth (items_of items) =
    subst (λ (d : Data). depth d ≤ items_depth (items_of items)) (sym c.at-json.ensures) (item-depth items c.loop-index.index null within) in
    (omega arith, tt)

pub selections-returns-in-Err-clause-err : goal.selections-returns-in-Err-clause-err
selections-returns-in-Err-clause-err t c refused =
    let items = item_datas c.args.items in
    let within : c.loop-index.index < length items = omega (arith, c.len.ensures) in
    none_at c.args.node.unknown items c.loop-index.index null within (λ tree is. c.in-Err.ensures.err (λ m. refused (c.in_item.ensures.memory m)) tree
    (subst (λ (d : Data). IsSelection c.args.node.unknown tree d) (sym c.at-json.ensures) is))

pub selections-loop-index-preserved : goal.selections-loop-index-preserved
selections-loop-index-preserved t c =
    let items = item_datas c.args.items in
    let i = c.loop-index.index in
    let item = any_data c.at-json.result in
    let within : i < length items = omega (arith, c.len.ensures) in
    let taken = take_item items i item null within c.at-json.ensures in
    subst₂ (λ selections jsons. AreSelections c.args.node.unknown (selection_trees selections) (items_of jsons)) (sym c.in_ok-push-in-Ok.ensures.items)
    (sym taken)
    (selections_more c.args.node.unknown c.loop-index.selections.items (take i items) c.in-Ok.selection item c.loop-index.invariant c.in-Ok.ensures.ok)

pub selections-returns-clause-ok : goal.selections-returns-clause-ok
selections-returns-clause-ok t c =
    let items = item_datas c.args.items in
    subst (λ (ds : List Data). AreSelections c.args.node.unknown (selection_trees c.loop-index.selections.items) (items_of ds))
    (take_all c.loop-index.index items (omega (arith, c.len.ensures))) c.loop-index.invariant

pub selections-returns-in_err-push-in-Ok-clause-err : goal.selections-returns-in_err-push-in-Ok-clause-err
selections-returns-in_err-push-in-Ok-clause-err t c = grind (arith, common_steps)

pub read_selection-returns-in-Field-clause-err : goal.read_selection-returns-in-Field-clause-err
read_selection-returns-in-Field-clause-err t c =
    let json = node_data c.args.node in
    let kind : IsOfKind (codes "Field") json = c.in_ok-location.ensures.kind ∙ ap (λ (s : List ℕ). Some (string s)) c.in-Field.is in
    turned c.field.result _ _ (λ error none m. only_field c.args.node.unknown json kind (none m)) c.field.ensures.err

pub read_selection-returns-in-InlineFragment-clause-err : goal.read_selection-returns-in-InlineFragment-clause-err
read_selection-returns-in-InlineFragment-clause-err t c =
    let json = node_data c.args.node in
    let kind : IsOfKind (codes "InlineFragment") json = c.in_ok-location.ensures.kind ∙ ap (λ (s : List ℕ). Some (string s)) c.in-InlineFragment.is in
    turned c.inline_fragment.result _ _ (λ error none m. only_inline_fragment c.args.node.unknown json kind (none m)) c.inline_fragment.ensures.err

pub inline_fragment-returns-in_err-selection_set-clause-err : goal.inline_fragment-returns-in_err-selection_set-clause-err
inline_fragment-returns-in_err-selection_set-clause-err t c =
    let json = node_data c.args.node in
    let none : ¬ IsMemory c.in_err-selection_set.field-0.0 → (fragment : InlineFragmentTree) → ¬ IsInlineFragment c.args.node.unknown fragment json =
    λ m fragment is. c.in_err-selection_set.ensures.err m fragment.selections is.2 in
    passed _ _ _ none c.from_residual-in_err-selection_set.ensures.1

pub optional_set-returns-in-Some-clause-err : goal.optional_set-returns-in-Some-clause-err
optional_set-returns-in-Some-clause-err t c =
    let unknown = c.args.node.unknown in
    told c.told_within.result c.read_selection_set.result IsMemory _ c.told_within.ensures.err
    (turned c.read_selection_set.result _ _ (λ error none m set is. none m set
    (subst (λ (found : Option Data). MatchOption found (AreSelections unknown set no_items) (IsSelectionSet unknown set)) (sym c.in-Some.ensures.value) is))
    c.read_selection_set.ensures.err)

pub required_set-returns-clause-err : goal.required_set-returns-clause-err
required_set-returns-clause-err t c =
    let unknown = c.args.node.unknown in
    told c.told_within.result c.read_selection_set.result IsMemory _ c.told_within.ensures.err
    (turned c.read_selection_set.result _ _ (λ error none m set is. none m set
    (subst (λ (found : Option Data). IsSomeAnd found (IsSelectionSet unknown set)) c.in_ok-json.ensures.ok is))
    c.read_selection_set.ensures.err)
