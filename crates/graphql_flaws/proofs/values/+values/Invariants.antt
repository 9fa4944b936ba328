use Rattle.std.proofs.Common.{◌≡◌, ◌++◌, take}
use Rattle.graphql_values.specs.kinds.Values.{object_fields_flaws, values_flaws}
use Rattle.graphql_values.specs.trees.ValueTrees.{constness_of, object_field_trees, value_trees}
use Rattle.graphql_flaws.specs.FoundFlaws.{found_by}
use Rattle.graphql_flaws.proofs.values.+values.Given as goal

abbrev pub invariant-push_items-loop-index : goal.invariant-push_items-loop-index
invariant-push_items-loop-index l =
    found_by l.search ≡ found_by l.fn.search ++ values_flaws (constness_of l.constness) (value_trees (take l.index l.items))

abbrev pub invariant-push_object_fields-loop-index : goal.invariant-push_object_fields-loop-index
invariant-push_object_fields-loop-index l =
    found_by l.search ≡ found_by l.fn.search ++ object_fields_flaws (constness_of l.constness) (object_field_trees (take l.index l.fields))
