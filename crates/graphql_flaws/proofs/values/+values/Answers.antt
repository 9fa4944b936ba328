use Rattle.std.proofs.Common.{OnOk, ap, refl, subst, sym, ◌∙◌}
use Rattle.graphql_values.specs.kinds.Values.{object_fields_flaws, value_flaws, values_flaws}
use Rattle.graphql_values.specs.trees.ValueTrees.{constness_of, object_field_trees, value_tree, value_trees}
use Rattle.graphql_values.proofs.trees.ListAndObjectTrees.{list_tree, object_tree}
use Rattle.graphql_flaws.specs.FoundFlaws.{Finds, found_by}
use Rattle.graphql_flaws.proofs.PartsFound.{found_on}
use Rattle.graphql_flaws.proofs.values.+values.Goals as goal

pub push_items-loop-index-preserved : goal.push_items-loop-index-preserved
push_items-loop-index-preserved t c =
    let k = constness_of c.args.constness in
    found_on (λ item. value_flaws k (value_tree item.value)) (λ items. values_flaws k (value_trees items)) refl (λ part more. refl)
    c.args.items.now c.loop-index.index c.index-items-index.result (found_by c.args.search.now) (found_by c.loop-index.search) _ _ _
    c.loop-index-test.true c.index-items-index.is c.loop-index.invariant c.enter.ensures (rw c.deref.ensures at c.in_ok-push_value.ensures) c.leave.ensures

pub push_object_fields-loop-index-preserved : goal.push_object_fields-loop-index-preserved
push_object_fields-loop-index-preserved t c =
    let k = constness_of c.args.constness in
    found_on (λ field. value_flaws k (value_tree field.1.value)) (λ fields. object_fields_flaws k (object_field_trees fields)) refl (λ part more. refl)
    c.args.fields.now c.loop-index.index c.index-fields-index.result (found_by c.args.search.now) (found_by c.loop-index.search) _ _ _
    c.loop-index-test.true c.index-fields-index.is c.loop-index.invariant c.enter.ensures (rw c.deref.ensures at c.in_ok-push_value.ensures) c.leave.ensures

pub push_value-returns-in-List : goal.push_value-returns-in-List
push_value-returns-in-List t c =
    let k = constness_of c.args.constness in
    subst (λ flaws. OnOk c.push_items.result (Finds flaws c.args.search.now c.push_items.new.search))
    (ap (λ items. values_flaws k (value_trees items)) c.deref.ensures.value
    ∙ sym (ap (λ value. value_flaws k value) (ap value_tree c.in-List.is ∙ list_tree c.in-List.items)))
    c.push_items.ensures

pub push_value-returns-in-Object : goal.push_value-returns-in-Object
push_value-returns-in-Object t c =
    let k = constness_of c.args.constness in
    subst (λ flaws. OnOk c.push_object_fields.result (Finds flaws c.args.search.now c.push_object_fields.new.search))
    (ap (λ fields. object_fields_flaws k (object_field_trees fields)) c.deref-in-Object.ensures.value
    ∙ sym (ap (λ value. value_flaws k value) (ap value_tree c.in-Object.is ∙ object_tree c.in-Object.fields)))
    c.push_object_fields.ensures
