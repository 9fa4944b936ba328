use Rattle.std.proofs.Common.{codes, option_map, refl, sym, subst, subst₂, take, take_all, IsSomeAnd}
use Rattle.serde_json.proofs.Views.{view-Array}
use Rattle.serde_json.specs.Find.{as_array}
use Rattle.serde_json.specs.View.{view, items_view}
use Rattle.graphql_executable.specs.trees.ExecutableTrees.{selection_trees}
use Rattle.graphql_ast_json.specs.kinds.ExecutableJson.{AreSelections, field_members, inline_fragment_members}
use Rattle.graphql_ast_json.proofs.general.OkValues.{both_then}
use Rattle.graphql_ast_json.proofs.nodes.DraftsAreNodes.{begun, ended, gained, given_member, is_node, stands}
use Rattle.graphql_ast_json.proofs.nodes.GivenMembers.{list_is}
use Rattle.ast_json_nodes.proofs.nodes.NodeLists.{take_next}
use Rattle.graphql_ast_json.proofs.kinds.SelectionJsonByKind.{selections_more_written}
use Rattle.graphql_ast_json.proofs.trees.SelectionTrees.{field_of_parts, given_optional_set, given_set, inline_fragment_of_parts}
use Rattle.graphql_ast_json.proofs.selection.write.+selection.Goals as goal

pub write_selections-loop-selection-preserved : goal.write_selections-loop-selection-preserved
write_selections-loop-selection-preserved t c = λ unknown.
    let selections = c.args.selections.now in
    let i = c.loop-selection.selection-index in
    let selection = c.selection-item.result in
    subst₂ (λ taken jsons. AreSelections unknown (selection_trees taken) (items_view jsons))
    (sym (take_next selections i selection c.loop-selection-test.true c.selection-item.is)) (sym c.in_ok-push.ensures.ok)
    (selections_more_written unknown (take i selections) c.loop-selection.list.items selection c.in_ok-json.json (c.loop-selection.invariant unknown)
    (c.in_ok-json.ensures.ok unknown))

pub write_selections-returns : goal.write_selections-returns
write_selections-returns t c = λ unknown.
    let all = take_all c.loop-selection.selection-index c.args.selections.now c.loop-selection-test.false in
    subst (λ json. IsSomeAnd (as_array json) (AreSelections unknown (selection_trees c.args.selections.now))) (sym (view-Array c.loop-selection.list))
    (subst (λ selections. AreSelections unknown (selection_trees selections) (items_view c.loop-selection.list.items)) all
    (c.loop-selection.invariant unknown))

pub write_selection_set-returns : goal.write_selection_set-returns
write_selection_set-returns t c =
    let list = view c.in_ok-list.list in
    let set = selection_trees c.args.selections.now in record {
      ok = both_then c.with_member.result c.with_member.ensures.node c.with_member.ensures.member (λ json node at unknown.
          (node unknown, list_is (codes "selections") (view json) list (AreSelections unknown set) at (c.in_ok-list.ensures unknown)));
      stands = rw c.new.ensures at c.with_member.ensures.stands;
    }

pub write_field-returns : goal.write_field-returns
write_field-returns t c =
    let field = c.args.field.now in
    let json = view c.into_json.result in
    let set =
    given_optional_set (selection_trees c.deref-2.result.now)
    (option_map view c.in_ok-set.set) c.in_ok-put_optional_json.ensures.ok c.in_ok-set.ensures in
    let w =
    ended c.into_json.ensures (gained (gained (gained (gained
    (gained (begun c.in_ok-begin.ensures) c.in_ok-put_optional.ensures) c.in_ok-put.ensures)
    c.in_ok-put_list.ensures)
    c.in_ok-put_directives.ensures) set) in record {
      ok = λ unknown. field_of_parts unknown field json (
        is_node unknown field_members w refl refl refl refl,
        (
          given_member w c.in_ok-put_optional.ensures refl refl unknown,
          given_member w c.in_ok-put.ensures refl refl unknown,
          rw (sym c.deref.ensures.value) (given_member w c.in_ok-put_list.ensures refl refl unknown).1,
          (given_member w c.in_ok-put_directives.ensures refl refl unknown).1,
        ),
        rw (sym c.deref-2.ensures.value) (given_member w set refl refl unknown),
      );
      stands = stands w refl refl;
    }

pub write_inline_fragment-returns : goal.write_inline_fragment-returns
write_inline_fragment-returns t c =
    let fragment = c.args.fragment.now in
    let json = view c.into_json.result in
    let set = given_set (selection_trees c.deref.result.now) (view c.in_ok-set.set) c.in_ok-put_json.ensures.ok c.in_ok-set.ensures.ok in
    let w =
    ended c.into_json.ensures (gained (gained (gained (begun c.in_ok-begin.ensures) c.in_ok-put_optional.ensures)
    c.in_ok-put_directives.ensures) set) in record {
      ok = λ unknown. inline_fragment_of_parts unknown fragment json (
        is_node unknown inline_fragment_members w refl refl refl refl,
        (given_member w c.in_ok-put_optional.ensures refl refl unknown, (given_member w c.in_ok-put_directives.ensures refl refl unknown).1),
        rw (sym c.deref.ensures.value) (given_member w set refl refl unknown),
      );
      stands = stands w refl refl;
    }
