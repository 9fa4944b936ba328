use Rattle.std.proofs.Common.{List, [], ◌∷◌, Some, ap, codes, option_map, refl, sym, subst, take, take_all, append_assoc, string_bytes, IsSomeAnd, ◌∙◌}
use Rattle.std.proofs.lemmas.Str.{IsUtf8-string_bytes, encodes-chars}
use Rattle.json.specs.Print.{escape_byte}
use Rattle.serde_json.specs.Data.{array, object, string}
use Rattle.serde_json.specs.Find.{as_array}
use Rattle.serde_json.specs.Written.{compact_text}
use Rattle.graphql_values.specs.kinds.Values.{list_value, object_value}
use Rattle.graphql_values.specs.trees.Literals.{string_tree}
use Rattle.graphql_values.specs.trees.ValueTrees.{value_tree, value_trees, object_field_trees}
use Rattle.ast_json_nodes.proofs.nodes.NodeLists.{take_next}
use Rattle.ast_json_nodes.specs.code.NodeReading.{IsTextNode}
use Rattle.ast_json_nodes.specs.declared.read.Unknown.{Unknown}
use Rattle.ast_json_nodes.specs.declared.read.Unknown.TheVariants.{Refuse}
use Rattle.graphql_ast_json.proofs.trees.ValueAndTypeTrees.{boolean_tree, enum_tree, float_value_tree, int_value_tree, list_tree, null_tree}
use Rattle.graphql_ast_json.proofs.trees.ValueAndTypeTrees.{object_tree, string_value_tree, variable_tree}
use Rattle.graphql_ast_json.specs.code.Drafts.{location_json}
use Rattle.graphql_ast_json.specs.kinds.ValueJson.{AreObjectFields, AreValues, IsValue}
use Rattle.graphql_ast_json.specs.lemmas.Leaves.{never_null_of, there}
use Rattle.graphql_ast_json.specs.lemmas.ValueNodes.{value_laws}
use Rattle.json_text.proofs.ArrayTexts.{added, array_ended, next_item, no_items_yet}
use Rattle.json_text.proofs.Entries.{Entry, filled, plain_object}
use Rattle.json_text.proofs.ObjectTexts.{behind, ended, next, opened, weaker}
use Rattle.json_text.proofs.PlainTexts.{plain_array, plain_string}
use Rattle.ast_json_text.specs.Members.{WritesMember}
use Rattle.ast_json_text.proofs.AddedItems.{fields_added, values_added}
use Rattle.ast_json_text.proofs.FilledNodes.{is_node, list_is, member_is}
use Rattle.ast_json_text.proofs.Locations.{located, plain_location, stands_at}
use Rattle.graphql_ast_json.proofs.nodes.GivenMembers.{array_there}
use Rattle.ast_json_text.proofs.value.+value.Goals as goal

-- THE ITEMS OF A LIST

pub write_items-loop-item-init : goal.write_items-loop-item-init
write_items-loop-item-init g t c = no_items_yet g.met.O.Target.more c.text.ensures (λ unknown. tt)

pub write_items-loop-item-preserved : goal.write_items-loop-item-preserved
write_items-loop-item-preserved g t c =
    let i = c.loop-item.item-index in
    let item = c.item-item.result in
    let so_far = c.loop-item.invariant in
    let made = c.write_value.ensures in
    next_item g.met.O.Target.more made.json so_far c.write_comma.ensures made.text made.plain (λ are unknown.
    subst (λ taken. AreValues unknown (value_trees taken) (added so_far.items made.json))
    (sym (take_next c.args.items.now i item c.loop-item-test.true c.item-item.is))
    (values_added unknown (take i c.args.items.now) item so_far.items made.json (are unknown) (subst (λ v. IsValue unknown (value_tree v) made.json)
    c.deref.ensures (made.is.0 unknown))))

pub write_items-returns : goal.write_items-returns
write_items-returns g t c =
    let all = take_all c.loop-item.item-index c.args.items.now c.loop-item-test.false in
    let so_far = c.loop-item.invariant in record {
      json = array so_far.items;
      text = array_ended g.met.O.Target.more so_far c.text-2.ensures;
      plain = plain_array so_far.items so_far.plain;
      is = λ unknown. subst (λ items. AreValues unknown (value_trees items) so_far.items) all (so_far.are unknown);
    }

pub write_list_value-returns : goal.write_list_value-returns
unfolding escape_byte
write_list_value-returns g t c =
    let more = g.met.O.Target.more in
    let location = c.write_location.ensures in
    let at = option_map location_json c.args.context.location in
    let made = c.write_items.ensures in
    let values : WritesMember g.O.Target.wrote c.write_location.new.out (codes ",\"values\":") c.write_items.new.out
    (λ json. (unknown : Unknown) → IsSomeAnd (as_array json) (AreValues unknown (value_trees c.args.items.now))) = record {
      json = made.json;
      text = more _ _ _ _ _ c.text-2.ensures made.text;
      there = array_there made.json (AreValues Refuse (value_trees c.args.items.now)) (made.is Refuse);
      plain = made.plain;
      is = made.is;
    } in
    let entries : List Entry = (codes "kind", Some (string (codes "ListValue"))) ∷ (codes "loc", at) ∷ (codes "values", Some values.json) ∷ [] in record {
      json = object (filled entries);
      text =
          ended more (next more (codes "values") values.json (behind more (codes "loc") at
          (opened more (codes "kind") (string (codes "ListValue")) c.text.ensures) location.text) values.text) c.text-3.ensures;
      plain = plain_object entries refl (plain_string, (plain_location c.args.context.location location.reach, (values.plain, tt)));
      is = (
        λ unknown. (
          is_node unknown (codes "ListValue") (codes "values" ∷ []) entries _ refl refl refl refl (located unknown c.args.context.location location.reach),
          list_is entries (codes "values") values refl refl unknown,
        ),
        stands_at entries c.args.context.location location.reach refl refl,
      );
    }

-- THE FIELDS OF AN OBJECT

pub write_fields-loop-field-init : goal.write_fields-loop-field-init
write_fields-loop-field-init g t c = no_items_yet g.met.O.Target.more c.text.ensures (λ unknown. tt)

pub write_fields-loop-field-preserved : goal.write_fields-loop-field-preserved
unfolding escape_byte
write_fields-loop-field-preserved g t c =
    let more = g.met.O.Target.more in
    let wrote = g.O.Target.wrote in
    let i = c.loop-field.field-index in
    let field = c.field-item.result in
    let so_far = c.loop-field.invariant in
    let name = c.write_member.ensures in
    let value = c.write_value.ensures in
    let tree = value_tree field.1.value in
    let is : (unknown : Unknown) → IsValue unknown tree value.json =
    λ unknown. subst (λ v. IsValue unknown (value_tree v) value.json) c.deref.ensures (value.is.0 unknown) in
    let member : WritesMember wrote c.write_member.new.out (codes ",\"value\":") c.write_value.new.out (λ json. (unknown : Unknown) → IsValue unknown tree
    json) =
    record {
      json = value.json;
      text = more _ _ _ _ _ c.text-in-loop-field.ensures value.text;
      there = there (IsValue Refuse) (never_null_of value_laws Refuse) tree value.json (is Refuse);
      plain = value.plain;
      is = is;
    } in
    let entries : List Entry = (codes "kind", Some (string (codes "ObjectField"))) ∷ (codes "name", Some name.json) ∷ (codes "value", Some member.json) ∷ [] in
    let text : wrote c.write_comma.new.out (compact_text (object (filled entries))) c.text-in-loop-field-2.new.self =
    subst (λ x. wrote c.write_comma.new.out x c.text-in-loop-field-2.new.self)
    (append_assoc (codes "{\"kind\":\"ObjectField\",\"name\":") (compact_text name.json) _)
    (more _ _ _ _ _ name.text (more _ _ _ _ _ c.text-in-loop-field.ensures (more _ _ _ _ _ value.text c.text-in-loop-field-2.ensures))) in
    next_item more (object (filled entries)) so_far c.write_comma.ensures text
    (plain_object entries refl (plain_string, (name.plain, (member.plain, tt)))) (λ are unknown.
    subst (λ taken. AreObjectFields unknown (object_field_trees taken) (added so_far.items (object (filled entries))))
    (sym (take_next c.args.fields.now i field c.loop-field-test.true c.field-item.is))
    (fields_added unknown (take i c.args.fields.now) field so_far.items (object (filled entries)) (are unknown) (
      is_node unknown (codes "ObjectField") (codes "name" ∷ codes "value" ∷ []) entries _ refl refl refl refl tt,
      member_is entries (codes "name") name refl refl unknown,
      member_is entries (codes "value") member refl refl unknown,
    )))

pub write_fields-returns : goal.write_fields-returns
write_fields-returns g t c =
    let all = take_all c.loop-field.field-index c.args.fields.now c.loop-field-test.false in
    let so_far = c.loop-field.invariant in record {
      json = array so_far.items;
      text = array_ended g.met.O.Target.more so_far c.text-2.ensures;
      plain = plain_array so_far.items so_far.plain;
      is = λ unknown. subst (λ fields. AreObjectFields unknown (object_field_trees fields) so_far.items) all (so_far.are unknown);
    }

pub write_object_value-returns : goal.write_object_value-returns
unfolding escape_byte
write_object_value-returns g t c =
    let more = g.met.O.Target.more in
    let location = c.write_location.ensures in
    let at = option_map location_json c.args.context.location in
    let made = c.write_fields.ensures in
    let fields : WritesMember g.O.Target.wrote c.args.out.now (codes "{\"fields\":") c.write_fields.new.out
    (λ json. (unknown : Unknown) → IsSomeAnd (as_array json) (AreObjectFields unknown (object_field_trees c.args.fields.now))) = record {
      json = made.json;
      text = more _ _ _ _ _ c.text.ensures made.text;
      there = array_there made.json (AreObjectFields Refuse (object_field_trees c.args.fields.now)) (made.is Refuse);
      plain = made.plain;
      is = made.is;
    } in
    let entries : List Entry = (codes "fields", Some fields.json) ∷ (codes "kind", Some (string (codes "ObjectValue"))) ∷ (codes "loc", at) ∷ [] in record {
      json = object (filled entries);
      text =
          ended more (behind more (codes "loc") at (next more (codes "kind") (string (codes "ObjectValue")) (opened more (codes "fields") fields.json
          fields.text)
          c.text-2.ensures) location.text) c.text-3.ensures;
      plain = plain_object entries refl (fields.plain, (plain_string, (plain_location c.args.context.location location.reach, tt)));
      is = (
        λ unknown. (
          is_node unknown (codes "ObjectValue") (codes "fields" ∷ []) entries _ refl refl refl refl (located unknown c.args.context.location location.reach),
          list_is entries (codes "fields") fields refl refl unknown,
        ),
        stands_at entries c.args.context.location location.reach refl refl,
      );
    }

-- VALUES

pub write_value-returns-in-List : goal.write_value-returns-in-List
write_value-returns-in-List g t c =
    weaker g.met.O.Target.more c.write_list_value.ensures (λ json is. (
      λ unknown.
          subst (λ tree. IsValue unknown tree json) (sym (ap value_tree c.in-List.is ∙ list_tree c.in-List.items))
          (subst (λ nodes. IsValue unknown (list_value (value_trees nodes)) json) c.as_slice.ensures.value (is.0 unknown)),
      is.1,
    ))

pub write_value-returns-in-Object : goal.write_value-returns-in-Object
write_value-returns-in-Object g t c =
    weaker g.met.O.Target.more c.write_object_value.ensures (λ json is. (
      λ unknown.
          subst (λ tree. IsValue unknown tree json) (sym (ap value_tree c.in-Object.is ∙ object_tree c.in-Object.fields))
          (subst (λ fields. IsValue unknown (object_value (object_field_trees fields)) json) c.as_slice-in-Object.ensures.value (is.0 unknown)),
      is.1,
    ))

pub write_value-returns-in-Null : goal.write_value-returns-in-Null
write_value-returns-in-Null g t c =
    weaker g.met.O.Target.more c.write_null.ensures (λ json is. (
      λ unknown. subst (λ tree. IsValue unknown tree json) (sym (ap value_tree c.in-Null.is ∙ null_tree)) (is.0 unknown),
      is.1,
    ))

pub write_value-returns-in-Enum : goal.write_value-returns-in-Enum
unfolding escape_byte
write_value-returns-in-Enum g t c =
    weaker g.met.O.Target.more (c.write_text_node.ensures (codes "EnumValue") refl) (λ json is. (
      λ unknown.
          subst (λ tree. IsValue unknown tree json) (sym (ap value_tree c.in-Enum.is ∙ enum_tree c.in-Enum.name))
          (subst (λ text. IsTextNode unknown (codes "EnumValue") text json) c.as_str.ensures.text (is.0 unknown)),
      is.1,
    ))

pub write_value-returns-in-Variable : goal.write_value-returns-in-Variable
write_value-returns-in-Variable g t c =
    weaker g.met.O.Target.more c.write_variable.ensures (λ json is. (
      λ unknown. subst (λ tree. IsValue unknown tree json) (sym (ap value_tree c.in-Variable.is ∙ variable_tree c.in-Variable.name)) (is.0 unknown),
      is.1,
    ))

pub write_value-returns-in-String : goal.write_value-returns-in-String
write_value-returns-in-String g t c =
    let text = c.in-String.text in
    let bytes = string_bytes text in
    let same = encodes-chars bytes (IsUtf8-string_bytes text) ∙ sym c.as_str-characters.ensures.value in
    weaker g.met.O.Target.more c.write_string_node.ensures (λ json is. (
      λ unknown.
          subst (λ tree. IsValue unknown tree json) (sym (ap value_tree c.in-String.is ∙ string_value_tree text)) (is.0 unknown (string_tree text) same),
      is.1,
    ))

pub write_value-returns-in-Float : goal.write_value-returns-in-Float
unfolding escape_byte
write_value-returns-in-Float g t c =
    weaker g.met.O.Target.more (c.write_text_node-in-Float.ensures (codes "FloatValue") refl) (λ json is. (
      λ unknown.
          subst (λ tree. IsValue unknown tree json) (sym (ap value_tree c.in-Float.is ∙ float_value_tree c.in-Float.float))
          (subst (λ text. IsTextNode unknown (codes "FloatValue") text json) c.as_str-in-Float.ensures.text (is.0 unknown)),
      is.1,
    ))

pub write_value-returns-in-Int : goal.write_value-returns-in-Int
unfolding escape_byte
write_value-returns-in-Int g t c =
    weaker g.met.O.Target.more (c.write_text_node-in-Int.ensures (codes "IntValue") refl) (λ json is. (
      λ unknown.
          subst (λ tree. IsValue unknown tree json) (sym (ap value_tree c.in-Int.is ∙ int_value_tree c.in-Int.int))
          (subst (λ text. IsTextNode unknown (codes "IntValue") text json) c.as_str-in-Int.ensures.text (is.0 unknown)),
      is.1,
    ))

pub write_value-returns-in-Boolean : goal.write_value-returns-in-Boolean
write_value-returns-in-Boolean g t c =
    weaker g.met.O.Target.more c.write_boolean_value.ensures (λ json is. (
      λ unknown. subst (λ tree. IsValue unknown tree json) (sym (ap value_tree c.in-Boolean.is ∙ boolean_tree c.in-Boolean.is_true)) (is.0 unknown),
      is.1,
    ))
