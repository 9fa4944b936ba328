use Rattle.std.proofs.Common.{◌≡◌, length}
use Rattle.graphql_text.specs.trees.Leaves.{name_trees}
use Rattle.graphql_operations.specs.Names.{Begins}
use Rattle.graphql_operations.proofs.Reached.{IsFoundUpTo}
use Rattle.graphql_operations.proofs.fragments.further.Given as goal

abbrev pub invariant-loop-definition : goal.invariant-loop-definition
invariant-loop-definition l = record {
  count : l.count ≡ length l.fn.names.items;
  begins : Begins l.fn.names.items l.all.items;
  found : IsFoundUpTo (name_trees l.fn.names.items) l.definitions l.definition-index l.all.items;
}
