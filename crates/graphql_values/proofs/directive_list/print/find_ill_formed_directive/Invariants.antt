use Rattle.std.proofs.Common.{◌≡◌, drop}
use Rattle.graphql_text.specs.kinds.Flaws.{first_flaw}
use Rattle.graphql_values.specs.kinds.Directives.{directives_flaws}
use Rattle.graphql_values.specs.trees.DirectiveTrees.{directive_node_trees}
use Rattle.graphql_values.specs.trees.ValueTrees.{constness_of}
use Rattle.graphql_values.proofs.directive_list.print.find_ill_formed_directive.Given as goal

abbrev pub invariant-loop-directive : goal.invariant-loop-directive
invariant-loop-directive l =
    first_flaw (directives_flaws (constness_of l.constness) (directive_node_trees (drop l.directive-index l.nodes)))
    ≡ first_flaw (directives_flaws (constness_of l.constness) (directive_node_trees l.nodes))
