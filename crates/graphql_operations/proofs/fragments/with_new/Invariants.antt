use Rattle.std.proofs.Common.{◌++◌}
use Rattle.graphql_text.specs.trees.Leaves.{name_trees}
use Rattle.graphql_operations.specs.Names.{AreSame, Begins}
use Rattle.graphql_operations.proofs.fragments.with_new.Given as goal

abbrev pub invariant-loop-name : goal.invariant-loop-name
invariant-loop-name l = record {
  same : AreSame (name_trees l.all.items) (name_trees l.fn.names.items ++ name_trees l.yielded);
  begins : Begins l.fn.names.items l.all.items;
}
