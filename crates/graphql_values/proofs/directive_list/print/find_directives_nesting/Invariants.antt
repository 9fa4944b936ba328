use Rattle.std.proofs.Common.{◌≡◌, max, drop}
use Rattle.graphql_values.specs.kinds.Directives.{directives_nesting}
use Rattle.graphql_values.specs.trees.DirectiveTrees.{directive_node_trees}
use Rattle.graphql_values.proofs.directive_list.print.find_directives_nesting.Given as goal

abbrev pub invariant-loop-directive : goal.invariant-loop-directive
invariant-loop-directive l =
    max l.most (directives_nesting (directive_node_trees (drop l.directive-index l.nodes)))
    ≡ directives_nesting (directive_node_trees l.nodes)
