use Rattle.std.proofs.Common.{ap, codes, sym, option_and_then, Some, ◌∙◌, subst, subst₂, take, take_all, string_bytes, IsSomeAnd}
use Rattle.std.proofs.lemmas.Str.{IsUtf8-string_bytes, encodes-chars}
use Rattle.serde_json.proofs.Views.{view-Array}
use Rattle.serde_json.specs.Find.{as_array}
use Rattle.serde_json.specs.View.{view, items_view}
use Rattle.graphql_text.specs.trees.Leaves.{name_tree}
use Rattle.graphql_values.specs.trees.Literals.{string_tree}
use Rattle.graphql_values.specs.trees.ValueTrees.{value_tree, value_trees, object_field_trees}
use Rattle.graphql_ast_json.specs.kinds.ValueJson.{IsValue, IsNamedValue, AreValues, AreObjectFields}
use Rattle.ast_json_nodes.specs.code.NodeReading.{IsTextNode}
use Rattle.ast_json_nodes.specs.nodes.Nodes.{present}
use Rattle.ast_json_nodes.specs.declared.read.Unknown.{Unknown}
use Rattle.graphql_ast_json.proofs.general.OkValues.{both_then, one_then}
use Rattle.graphql_ast_json.specs.lemmas.Leaves.{never_null_of, there}
use Rattle.graphql_ast_json.specs.lemmas.ValueNodes.{value_laws}
use Rattle.graphql_ast_json.proofs.nodes.GivenMembers.{list_is, member_is}
use Rattle.graphql_ast_json.proofs.trees.ValueAndTypeTrees.{boolean_tree, boolean_view, enum_tree, float_value_tree, int_value_tree, list_tree, null_tree}
use Rattle.graphql_ast_json.proofs.trees.ValueAndTypeTrees.{object_tree, string_value_tree, variable_tree}
use Rattle.ast_json_nodes.proofs.nodes.NodeLists.{take_next}
use Rattle.graphql_ast_json.proofs.kinds.ValueListsWritten.{fields_more, values_more}
use Rattle.graphql_ast_json.proofs.value.write.+value.Goals as goal

pub write_items-loop-item-preserved : goal.write_items-loop-item-preserved
write_items-loop-item-preserved t c = λ unknown.
    let i = c.loop-item.item-index in
    let item = c.item-item.result in
    let value = c.in_ok-value.value in
    let is : IsValue unknown (value_tree item.value) (view value) =
    subst (λ v. IsValue unknown (value_tree v) (view value)) c.deref.ensures (c.in_ok-value.ensures.ok unknown) in
    let next = take_next c.args.items.now i item c.loop-item-test.true c.item-item.is in
    subst₂ (λ nodes jsons. AreValues unknown (value_trees nodes) (items_view jsons)) (sym next) (sym c.in_ok-push.ensures.ok)
    (values_more unknown (take i c.args.items.now) item c.loop-item.values.items value (c.loop-item.invariant unknown) is)

pub write_items-returns : goal.write_items-returns
write_items-returns t c = λ unknown.
    let all = take_all c.loop-item.item-index c.args.items.now c.loop-item-test.false in
    subst (λ json. IsSomeAnd (as_array json) (AreValues unknown (value_trees c.args.items.now))) (sym (view-Array c.loop-item.values))
    (subst (λ nodes. AreValues unknown (value_trees nodes) (items_view c.loop-item.values.items)) all (c.loop-item.invariant unknown))

pub write_fields-loop-field-preserved : goal.write_fields-loop-field-preserved
write_fields-loop-field-preserved t c = λ unknown.
    let i = c.loop-field.field-index in
    let field = c.field-item.result in
    let value = view c.in_ok-value.value in
    let json = c.in_ok-json.json in
    let made = c.in_ok-json.ensures in
    let tree = value_tree field.1.value in
    let is : IsValue unknown tree value = subst (λ v. IsValue unknown (value_tree v) value) c.deref.ensures (c.in_ok-value.ensures.ok unknown) in
    let named : IsNamedValue unknown (codes "ObjectField") (name_tree field.0) (IsValue unknown tree) (view json) = (
      made.node unknown,
      made.name unknown,
      member_is (codes "value") (view json) value (IsValue unknown tree) made.value
          (there (IsValue unknown) (never_null_of value_laws unknown) tree value is) is,
    ) in
    let next = take_next c.args.fields.now i field c.loop-field-test.true c.field-item.is in
    subst₂ (λ fields jsons. AreObjectFields unknown (object_field_trees fields) (items_view jsons)) (sym next) (sym c.in_ok-push.ensures.ok)
    (fields_more unknown (take i c.args.fields.now) field c.loop-field.list.items json (c.loop-field.invariant unknown) named)

pub write_fields-returns : goal.write_fields-returns
write_fields-returns t c = λ unknown.
    let all = take_all c.loop-field.field-index c.args.fields.now c.loop-field-test.false in
    subst (λ json. IsSomeAnd (as_array json) (AreObjectFields unknown (object_field_trees c.args.fields.now))) (sym (view-Array c.loop-field.list))
    (subst (λ fields. AreObjectFields unknown (object_field_trees fields) (items_view c.loop-field.list.items)) all (c.loop-field.invariant unknown))

pub write_value-returns-in_ok-values-in-List-clause-ok : goal.write_value-returns-in_ok-values-in-List-clause-ok
write_value-returns-in_ok-values-in-List-clause-ok t c =
    let inner = view c.in_ok-values-in-List.values in
    let items = c.in-List.items in
    let are = subst (λ nodes. (unknown : Unknown) → IsSomeAnd (as_array inner) (AreValues unknown (value_trees nodes))) c.as_slice.ensures.value
    c.in_ok-values-in-List.ensures in
    both_then c.with_member.result c.with_member.ensures.node c.with_member.ensures.member (λ json node at unknown.
    subst (λ tree. IsValue unknown tree (view json)) (sym (ap value_tree c.in-List.is ∙ list_tree items))
    (node unknown, list_is (codes "values") (view json) inner (AreValues unknown (value_trees items.items)) at (are unknown)))

pub write_value-returns-in_ok-fields-in-Object-clause-ok : goal.write_value-returns-in_ok-fields-in-Object-clause-ok
write_value-returns-in_ok-fields-in-Object-clause-ok t c =
    let inner = view c.in_ok-fields-in-Object.fields in
    let fields = c.in-Object.fields in
    let are =
    subst (λ fs. (unknown : Unknown) → IsSomeAnd (as_array inner) (AreObjectFields unknown (object_field_trees fs))) c.as_slice-in-Object.ensures.value
    c.in_ok-fields-in-Object.ensures in
    both_then c.with_member-in-Object.result c.with_member-in-Object.ensures.node c.with_member-in-Object.ensures.member (λ json node at unknown.
    subst (λ tree. IsValue unknown tree (view json)) (sym (ap value_tree c.in-Object.is ∙ object_tree fields))
    (node unknown, list_is (codes "fields") (view json) inner (AreObjectFields unknown (object_field_trees fields.items)) at (are unknown)))

pub write_value-returns-in-Null-clause-ok : goal.write_value-returns-in-Null-clause-ok
write_value-returns-in-Null-clause-ok t c =
    one_then c.with_none.result c.with_none.ensures.node (λ json node unknown.
    subst (λ tree. IsValue unknown tree (view json)) (sym (ap value_tree c.in-Null.is ∙ null_tree)) (node unknown))

pub write_value-returns-in-Variable-clause-ok : goal.write_value-returns-in-Variable-clause-ok
write_value-returns-in-Variable-clause-ok t c =
    one_then c.write_variable.result c.write_variable.ensures.ok (λ json is unknown.
    subst (λ tree. IsValue unknown tree (view json)) (sym (ap value_tree c.in-Variable.is ∙ variable_tree c.in-Variable.name)) (is unknown))

pub write_value-returns-in-String-clause-ok : goal.write_value-returns-in-String-clause-ok
write_value-returns-in-String-clause-ok t c =
    let text = c.in-String.text in
    let bytes = string_bytes text in
    let same = encodes-chars bytes (IsUtf8-string_bytes text) ∙ sym c.as_str-characters.ensures.value in
    one_then c.write_string.result c.write_string.ensures.ok (λ json is unknown.
    subst (λ tree. IsValue unknown tree (view json)) (sym (ap value_tree c.in-String.is ∙ string_value_tree text)) (is unknown (string_tree text) same))

pub write_value-returns-in-Enum-clause-ok : goal.write_value-returns-in-Enum-clause-ok
write_value-returns-in-Enum-clause-ok t c =
    one_then c.with_text.result c.with_text.ensures.ok (λ json is unknown.
    subst (λ tree. IsValue unknown tree (view json)) (sym (ap value_tree c.in-Enum.is ∙ enum_tree c.in-Enum.name))
    (subst (λ text. IsTextNode unknown (codes "EnumValue") text (view json)) c.as_str.ensures.text (is unknown)))

pub write_value-returns-in-Float-clause-ok : goal.write_value-returns-in-Float-clause-ok
write_value-returns-in-Float-clause-ok t c =
    one_then c.with_text-in-Float.result c.with_text-in-Float.ensures.ok (λ json is unknown.
    subst (λ tree. IsValue unknown tree (view json)) (sym (ap value_tree c.in-Float.is ∙ float_value_tree c.in-Float.float))
    (subst (λ text. IsTextNode unknown (codes "FloatValue") text (view json)) c.as_str-in-Float.ensures.text (is unknown)))

pub write_value-returns-in-Int-clause-ok : goal.write_value-returns-in-Int-clause-ok
write_value-returns-in-Int-clause-ok t c =
    one_then c.with_text-in-Int.result c.with_text-in-Int.ensures.ok (λ json is unknown.
    subst (λ tree. IsValue unknown tree (view json)) (sym (ap value_tree c.in-Int.is ∙ int_value_tree c.in-Int.int))
    (subst (λ text. IsTextNode unknown (codes "IntValue") text (view json)) c.as_str-in-Int.ensures.text (is unknown)))

pub write_value-returns-in-Boolean-clause-ok : goal.write_value-returns-in-Boolean-clause-ok
write_value-returns-in-Boolean-clause-ok t c =
    let is_true = c.in-Boolean.is_true in
    both_then c.with_member-in-Boolean.result c.with_member-in-Boolean.ensures.node c.with_member-in-Boolean.ensures.member (λ json node at unknown.
    subst (λ tree. IsValue unknown tree (view json)) (sym (ap value_tree c.in-Boolean.is ∙ boolean_tree is_true))
    (node unknown, ap (option_and_then present) (at ∙ ap Some (boolean_view is_true))))
