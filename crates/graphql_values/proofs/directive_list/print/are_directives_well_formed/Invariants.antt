use Rattle.std.proofs.Common.{◌≡◌, drop}
use Rattle.graphql_values.specs.kinds.Directives.{directives_obey}
use Rattle.graphql_values.specs.trees.DirectiveTrees.{directive_node_trees}
use Rattle.graphql_values.specs.trees.ValueTrees.{constness_of}
use Rattle.graphql_values.proofs.directive_list.print.are_directives_well_formed.Given as goal

abbrev pub invariant-loop-directive : goal.invariant-loop-directive
invariant-loop-directive l =
    directives_obey (constness_of l.constness) (directive_node_trees (drop l.directive-index l.nodes))
    ≡ directives_obey (constness_of l.constness) (directive_node_trees l.nodes)
