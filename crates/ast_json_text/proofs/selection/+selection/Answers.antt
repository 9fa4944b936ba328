use Rattle.std.proofs.Common.{◌∙◌, length, List, [], ◌∷◌, Some, None, ap, codes, option_map, refl, sym, subst, take, take_all, IsSomeAnd, ◌++◌, append-nil}
use Rattle.std.proofs.lemmas.Bool.{eqb-true}
use Rattle.std.proofs.lemmas.List.{nil_from_length}
use Rattle.json.specs.Print.{escape_byte}
use Rattle.serde_json.specs.Data.{array, no_items, object, string}
use Rattle.serde_json.specs.Find.{as_array}
use Rattle.serde_json.specs.Written.{compact_text}
use Rattle.graphql_executable.specs.trees.ExecutableTrees.{selection_trees}
use Rattle.ast_json_nodes.proofs.nodes.NodeLists.{take_next}
use Rattle.ast_json_nodes.specs.declared.read.Unknown.{Unknown}
use Rattle.ast_json_nodes.specs.declared.read.Unknown.TheVariants.{Refuse}
use Rattle.graphql_ast_json.proofs.trees.SelectionTrees.{field_of_parts, inline_fragment_of_parts}
use Rattle.graphql_ast_json.specs.code.Drafts.{location_json}
use Rattle.graphql_ast_json.specs.kinds.ExecutableJson.{AreSelections, IsSelectionSet, field_members, inline_fragment_members}
use Rattle.graphql_ast_json.specs.lemmas.ExecutableNodes.{selection_set_laws}
use Rattle.graphql_ast_json.specs.lemmas.Leaves.{never_null_of, there}
use Rattle.json_text.proofs.ArrayTexts.{added, array_ended, next_item, no_items_yet}
use Rattle.json_text.proofs.Entries.{Entry, filled, plain_object}
use Rattle.json_text.proofs.ObjectTexts.{begun, behind, ended, first, lead, next, opened, weaker}
use Rattle.json_text.proofs.PlainTexts.{plain_array, plain_string}
use Rattle.ast_json_text.specs.Members.{WritesMember}
use Rattle.ast_json_text.proofs.AddedItems.{selections_added}
use Rattle.ast_json_text.proofs.FilledNodes.{is_node, list_is, member_is, optional_is, optional_list_is}
use Rattle.ast_json_text.proofs.Locations.{located, plain_location, stands_at}
use Rattle.graphql_ast_json.proofs.nodes.GivenMembers.{array_there}
use Rattle.ast_json_text.proofs.selection.+selection.Goals as goal

pub write_selections-loop-selection-init : goal.write_selections-loop-selection-init
write_selections-loop-selection-init g t c = no_items_yet g.met.O.Target.more c.text.ensures (λ unknown. tt)

pub write_selections-loop-selection-preserved : goal.write_selections-loop-selection-preserved
write_selections-loop-selection-preserved g t c =
    let i = c.loop-selection.selection-index in
    let selection = c.selection-item.result in
    let so_far = c.loop-selection.invariant in
    let made = c.write_selection.ensures in
    next_item g.met.O.Target.more made.json so_far c.write_comma.ensures made.text made.plain (λ are unknown.
    subst (λ taken. AreSelections unknown (selection_trees taken) (added so_far.items made.json))
    (sym (take_next c.args.selections.now i selection c.loop-selection-test.true c.selection-item.is))
    (selections_added unknown (take i c.args.selections.now) selection so_far.items made.json (are unknown) (made.is.0 unknown)))

pub write_selections-returns : goal.write_selections-returns
write_selections-returns g t c =
    let all = take_all c.loop-selection.selection-index c.args.selections.now c.loop-selection-test.false in
    let so_far = c.loop-selection.invariant in record {
      json = array so_far.items;
      text = array_ended g.met.O.Target.more so_far c.text-2.ensures;
      plain = plain_array so_far.items so_far.plain;
      is = λ unknown. subst (λ selections. AreSelections unknown (selection_trees selections) so_far.items) all (so_far.are unknown);
    }

pub write_selection_set-returns : goal.write_selection_set-returns
unfolding escape_byte
write_selection_set-returns g t c =
    let more = g.met.O.Target.more in
    let made = c.write_selections.ensures in
    let set = selection_trees c.args.selections.now in
    let selections : WritesMember g.O.Target.wrote c.args.out.now (codes "{\"kind\":\"SelectionSet\",\"selections\":") c.write_selections.new.out
    (λ json. (unknown : Unknown) → IsSomeAnd (as_array json) (AreSelections unknown set)) = record {
      json = made.json;
      text = more _ _ _ _ _ c.text.ensures made.text;
      there = array_there made.json (AreSelections Refuse set) (made.is Refuse);
      plain = made.plain;
      is = made.is;
    } in
    let entries : List Entry = (codes "kind", Some (string (codes "SelectionSet"))) ∷ (codes "selections", Some selections.json) ∷ [] in record {
      json = object (filled entries);
      text = more _ _ _ _ _ c.text.ensures (more _ _ _ _ _ made.text c.text-2.ensures);
      plain = plain_object entries refl (plain_string, (selections.plain, tt));
      is = λ unknown. (
        is_node unknown (codes "SelectionSet") (codes "selections" ∷ []) entries _ refl refl refl refl tt,
        list_is entries (codes "selections") selections refl refl unknown,
      );
    }

pub write_field-returns : goal.write_field-returns
unfolding escape_byte
write_field-returns g t c =
    let more = g.met.O.Target.more in
    let field = c.args.field.now in
    let alias = c.write_leading.ensures in
    let arguments = c.write_list.ensures in
    let directives = c.write_directives.ensures in
    let location = c.write_location.ensures in
    let at = option_map location_json c.args.location in
    let name = c.write_member.ensures in
    let set = c.write_optional_set.ensures in
    let entries : List Entry =
    (codes "alias", alias.json) ∷ (codes "arguments", Some arguments.json) ∷ (codes "directives", Some directives.json)
    ∷ (codes "kind", Some (string (codes "Field"))) ∷ (codes "loc", at) ∷ (codes "name", Some name.json) ∷ (codes "selectionSet", set.json) ∷ [] in record {
      json = object (filled entries);
      text =
          ended more (behind more (codes "selectionSet") set.json (next more (codes "name") name.json (behind more (codes "loc") at
          (next more (codes "kind") (string (codes "Field")) (next more (codes "directives") directives.json (first more (codes "arguments") arguments.json
          (lead more (codes "alias") alias.json (begun more c.text.ensures) alias.text) arguments.text) directives.text) c.text-2.ensures)
          location.text) name.text) set.text) c.text-3.ensures;
      plain = plain_object entries refl
          (alias.plain, (arguments.plain, (directives.plain, (plain_string, (plain_location c.args.location location.reach, (name.plain, (set.plain, tt)))))));
      is = (
        λ unknown. field_of_parts unknown field (object (filled entries)) (
          is_node unknown (codes "Field") field_members entries _ refl refl refl refl (located unknown c.args.location location.reach),
          (
            optional_is entries (codes "alias") alias refl refl unknown,
            member_is entries (codes "name") name refl refl unknown,
            rw (sym c.deref.ensures.value) (optional_list_is entries (codes "arguments") arguments refl refl unknown),
            optional_list_is entries (codes "directives") directives refl refl unknown,
          ),
          rw (sym c.deref-2.ensures.value) (optional_is entries (codes "selectionSet") set refl refl unknown),
        ),
        stands_at entries c.args.location location.reach refl refl,
      );
    }

pub write_inline_fragment-returns : goal.write_inline_fragment-returns
unfolding escape_byte
write_inline_fragment-returns g t c =
    let more = g.met.O.Target.more in
    let fragment = c.args.fragment.now in
    let directives = c.write_directives.ensures in
    let location = c.write_location.ensures in
    let at = option_map location_json c.args.location in
    let made = c.write_selection_set.ensures in
    let trees = selection_trees c.deref.result.now in
    let set : WritesMember g.O.Target.wrote c.write_location.new.out (codes ",\"selectionSet\":") c.write_selection_set.new.out
    (λ json. (unknown : Unknown) → IsSelectionSet unknown trees json) = record {
      json = made.json;
      text = more _ _ _ _ _ c.text-2.ensures made.text;
      there = there (IsSelectionSet Refuse) (never_null_of selection_set_laws Refuse) trees made.json (made.is Refuse);
      plain = made.plain;
      is = made.is;
    } in
    let condition = c.write_optional.ensures in
    let entries : List Entry =
    (codes "directives", Some directives.json) ∷ (codes "kind", Some (string (codes "InlineFragment"))) ∷ (codes "loc", at)
    ∷ (codes "selectionSet", Some set.json) ∷ (codes "typeCondition", condition.json) ∷ [] in record {
      json = object (filled entries);
      text =
          ended more (behind more (codes "typeCondition") condition.json (next more (codes "selectionSet") set.json (behind more (codes "loc") at
          (next more (codes "kind") (string (codes "InlineFragment")) (opened more (codes "directives") directives.json directives.text) c.text.ensures)
          location.text) set.text) condition.text) c.text-3.ensures;
      plain = plain_object entries refl
          (directives.plain, (plain_string, (plain_location c.args.location location.reach, (set.plain, (condition.plain, tt)))));
      is = (
        λ unknown. inline_fragment_of_parts unknown fragment (object (filled entries)) (
          is_node unknown (codes "InlineFragment") inline_fragment_members entries _ refl refl refl refl (located unknown c.args.location location.reach),
          (
            optional_is entries (codes "typeCondition") condition refl refl unknown,
            optional_list_is entries (codes "directives") directives refl refl unknown,
          ),
          rw (sym c.deref.ensures.value) (member_is entries (codes "selectionSet") set refl refl unknown),
        ),
        stands_at entries c.args.location location.reach refl refl,
      );
    }

pub write_optional_set-returns-then-is_empty : goal.write_optional_set-returns-then-is_empty
write_optional_set-returns-then-is_empty g t c =
    let none = nil_from_length c.args.selections.now (eqb-true (length c.args.selections.now) 0 (sym c.is_empty.ensures ∙ c.if-is_empty.true)) in record {
      json = None;
      text = g.met.O.Target.nothing _;
      there = refl;
      plain = tt;
      is = λ unknown. subst (λ selections. AreSelections unknown (selection_trees selections) no_items) (sym none) tt;
    }

pub write_optional_set-returns : goal.write_optional_set-returns
write_optional_set-returns g t c =
    let wrote = g.O.Target.wrote in
    let made = c.write_selection_set.ensures in
    let trees = selection_trees c.args.selections.now in record {
      json = Some made.json;
      text = subst (λ x. wrote c.args.out.now (codes ",\"selectionSet\":" ++ x) c.write_selection_set.new.out) (sym (append-nil (compact_text made.json)))
          (g.met.O.Target.more _ _ _ _ _ c.text.ensures made.text);
      there = there (IsSelectionSet Refuse) (never_null_of selection_set_laws Refuse) trees made.json (made.is Refuse);
      plain = made.plain;
      is = made.is;
    }
