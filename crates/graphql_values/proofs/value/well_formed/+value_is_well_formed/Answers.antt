use Rattle.std.proofs.Common.{◌∙◌, ap, sym}
use Rattle.graphql_values.specs.kinds.Values.{value_obeys, values_obey, object_fields_obey}
use Rattle.graphql_values.specs.trees.ValueTrees.{constness_of, value_tree, value_trees, object_field_trees}
use Rattle.graphql_values.proofs.trees.ListAndObjectTrees.{list_tree, object_tree}
use Rattle.graphql_values.proofs.value.well_formed.+value_is_well_formed.Goals as goal

pub is_value_well_formed-returns-in-List : goal.is_value_well_formed-returns-in-List
is_value_well_formed-returns-in-List t c =
    c.are_items_well_formed.ensures
    ∙ ap (λ items. values_obey (constness_of c.args.constness) (value_trees items)) c.deref.ensures.value
    ∙ sym (ap (value_obeys (constness_of c.args.constness)) (ap value_tree c.in-List.is ∙ list_tree c.in-List.items))

pub is_value_well_formed-returns-in-Object : goal.is_value_well_formed-returns-in-Object
is_value_well_formed-returns-in-Object t c =
    c.are_fields_well_formed.ensures
    ∙ ap (λ fields. object_fields_obey (constness_of c.args.constness) (object_field_trees fields)) c.deref-in-Object.ensures.value
    ∙ sym (ap (value_obeys (constness_of c.args.constness)) (ap value_tree c.in-Object.is ∙ object_tree c.in-Object.fields))
