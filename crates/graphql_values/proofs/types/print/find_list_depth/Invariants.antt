use Rattle.std.proofs.Common.{◌≡◌, ◌+◌, ◌-◌, ◌≤◌, ◌^◌}
use Rattle.graphql_text.specs.layout.Levels.{capped}
use Rattle.graphql_values.specs.kinds.TypeReferences.{list_depth}
use Rattle.graphql_values.specs.trees.TypeTrees.{type_tree}
use Rattle.graphql_values.proofs.types.print.find_list_depth.Given as goal

abbrev pub invariant-loop-inner : goal.invariant-loop-inner
invariant-loop-inner l = record {
  counted : capped (l.depth + list_depth (type_tree l.inner)) ≡ capped (list_depth (type_tree l.ty));
  bound : l.depth ≤ 2 ^ 64 - 1;
}
