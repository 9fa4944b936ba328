use Rattle.std.proofs.Common.{◌∙◌, Some, ap, refl, sym}
use Rattle.graphql_text.specs.kinds.Flaws.{first_flaw}
use Rattle.graphql_text.proofs.kinds.FlawsTold.{found_behind_part, found_in_part}
use Rattle.graphql_values.specs.kinds.Values.{value_flaws, values_flaws, object_fields_flaws}
use Rattle.graphql_values.specs.trees.ValueTrees.{constness_of, value_tree, value_trees, object_field_trees}
use Rattle.graphql_values.proofs.trees.ListAndObjectTrees.{list_tree, object_tree}
use Rattle.graphql_values.proofs.value.well_formed.+find_ill_formed_value.Goals as goal

pub find_ill_formed_value-returns-in-List : goal.find_ill_formed_value-returns-in-List
find_ill_formed_value-returns-in-List t c =
    c.find_ill_formed_item.ensures
    ∙ ap (λ items. first_flaw (values_flaws (constness_of c.args.constness) (value_trees items))) c.deref.ensures.value
    ∙ sym (ap (λ value. first_flaw (value_flaws (constness_of c.args.constness) value)) (ap value_tree c.in-List.is ∙ list_tree c.in-List.items))

pub find_ill_formed_value-returns-in-Object : goal.find_ill_formed_value-returns-in-Object
find_ill_formed_value-returns-in-Object t c =
    c.find_ill_formed_field.ensures
    ∙ ap (λ fields. first_flaw (object_fields_flaws (constness_of c.args.constness) (object_field_trees fields))) c.deref-in-Object.ensures.value
    ∙ sym (ap (λ value. first_flaw (value_flaws (constness_of c.args.constness) value)) (ap value_tree c.in-Object.is ∙ object_tree c.in-Object.fields))

pub find_ill_formed_item-returns-in-Some : goal.find_ill_formed_item-returns-in-Some
find_ill_formed_item-returns-in-Some t c =
    let k = constness_of c.args.constness in
    ap Some c.within.ensures.flaw
    ∙ found_in_part (λ item. value_flaws k (value_tree item.value)) (λ items. values_flaws k (value_trees items)) (λ part more. refl)
    c.args.items.now c.loop-item.item-index c.item-item.result c.loop-item-test.true c.item-item.is c.loop-item.invariant
    c.find_ill_formed_value.result c.in-Some.found (rw c.deref.ensures at c.find_ill_formed_value.ensures) c.in-Some.is

pub find_ill_formed_item-loop-item-preserved : goal.find_ill_formed_item-loop-item-preserved
find_ill_formed_item-loop-item-preserved t c =
    let k = constness_of c.args.constness in
    found_behind_part (λ item. value_flaws k (value_tree item.value)) (λ items. values_flaws k (value_trees items)) (λ part more. refl)
    c.args.items.now c.loop-item.item-index c.item-item.result c.loop-item-test.true c.item-item.is c.loop-item.invariant
    c.find_ill_formed_value.result (rw c.deref.ensures at c.find_ill_formed_value.ensures) c.in_default.is

pub find_ill_formed_field-returns-in-Some : goal.find_ill_formed_field-returns-in-Some
find_ill_formed_field-returns-in-Some t c =
    let k = constness_of c.args.constness in
    ap Some c.within.ensures.flaw
    ∙ found_in_part (λ field. value_flaws k (value_tree field.1.value)) (λ fields. object_fields_flaws k (object_field_trees fields)) (λ part more. refl)
    c.args.fields.now c.loop-field.field-index c.field-item.result c.loop-field-test.true c.field-item.is c.loop-field.invariant
    c.find_ill_formed_value.result c.in-Some.found (rw c.deref.ensures at c.find_ill_formed_value.ensures) c.in-Some.is

pub find_ill_formed_field-loop-field-preserved : goal.find_ill_formed_field-loop-field-preserved
find_ill_formed_field-loop-field-preserved t c =
    let k = constness_of c.args.constness in
    found_behind_part (λ field. value_flaws k (value_tree field.1.value)) (λ fields. object_fields_flaws k (object_field_trees fields)) (λ part more. refl)
    c.args.fields.now c.loop-field.field-index c.field-item.result c.loop-field-test.true c.field-item.is c.loop-field.invariant
    c.find_ill_formed_value.result (rw c.deref.ensures at c.find_ill_formed_value.ensures) c.in_default.is
