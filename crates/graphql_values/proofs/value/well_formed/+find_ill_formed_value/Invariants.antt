use Rattle.std.proofs.Common.{◌≡◌, drop}
use Rattle.graphql_text.specs.kinds.Flaws.{first_flaw}
use Rattle.graphql_values.specs.kinds.Values.{values_flaws, object_fields_flaws}
use Rattle.graphql_values.specs.trees.ValueTrees.{constness_of, value_trees, object_field_trees}
use Rattle.graphql_values.proofs.value.well_formed.+find_ill_formed_value.Given as goal

abbrev pub invariant-find_ill_formed_item-loop-item : goal.invariant-find_ill_formed_item-loop-item
invariant-find_ill_formed_item-loop-item l =
    first_flaw (values_flaws (constness_of l.constness) (value_trees (drop l.item-index l.items)))
    ≡ first_flaw (values_flaws (constness_of l.constness) (value_trees l.items))

abbrev pub invariant-find_ill_formed_field-loop-field : goal.invariant-find_ill_formed_field-loop-field
invariant-find_ill_formed_field-loop-field l =
    first_flaw (object_fields_flaws (constness_of l.constness) (object_field_trees (drop l.field-index l.fields)))
    ≡ first_flaw (object_fields_flaws (constness_of l.constness) (object_field_trees l.fields))
