use Rattle.std.proofs.Common.{refl}
use Rattle.graphql_text.proofs.kinds.FlawsTold.{found_behind_part}
use Rattle.graphql_values.specs.kinds.Directives.{directive_flaws, directives_flaws}
use Rattle.graphql_values.specs.trees.DirectiveTrees.{directive_tree, directive_node_trees}
use Rattle.graphql_values.specs.trees.ValueTrees.{constness_of}
use Rattle.graphql_values.proofs.directive_list.print.find_ill_formed_directive.Goals as goal

pub loop-directive-preserved : goal.loop-directive-preserved
loop-directive-preserved c =
    let k = constness_of c.args.constness in
    found_behind_part (λ directive. directive_flaws k (directive_tree directive.value))
    (λ nodes. directives_flaws k (directive_node_trees nodes)) (λ part more. refl)
    c.as_slice-nodes.result.now c.loop-directive.directive-index c.directive-item.result c.loop-directive-test.true
    c.directive-item.is c.loop-directive.invariant
    c.find_ill_formed_argument.result (rw c.deref.ensures at (rw c.deref-in-loop-directive.ensures.value at c.find_ill_formed_argument.ensures)) c.in_default.is
