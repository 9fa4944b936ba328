use Rattle.std.proofs.Common.{◌∙◌, Some, ap, refl}
use Rattle.graphql_text.proofs.kinds.FlawsTold.{found_behind_part, found_in_part}
use Rattle.graphql_values.specs.kinds.Arguments.{argument_flaws, arguments_flaws}
use Rattle.graphql_values.specs.trees.DirectiveTrees.{argument_tree, argument_trees}
use Rattle.graphql_values.specs.trees.ValueTrees.{constness_of}
use Rattle.graphql_values.proofs.argument.print.find_ill_formed_argument.Goals as goal

pub returns-in-Some : goal.returns-in-Some
returns-in-Some c =
    let k = constness_of c.args.constness in
    ap Some (c.within.ensures.flaw ∙ c.within-found.ensures.flaw)
    ∙ found_in_part (λ argument. argument_flaws k (argument_tree argument.value))
    (λ arguments. arguments_flaws k (argument_trees arguments)) (λ part more. refl)
    c.args.arguments.now c.loop-argument.argument-index c.argument-item.result c.loop-argument-test.true c.argument-item.is c.loop-argument.invariant
    c.find_ill_formed_value.result c.in-Some.found (rw c.deref.ensures at (rw c.deref-in-loop-argument.ensures at c.find_ill_formed_value.ensures)) c.in-Some.is

pub loop-argument-preserved : goal.loop-argument-preserved
loop-argument-preserved c =
    let k = constness_of c.args.constness in
    found_behind_part (λ argument. argument_flaws k (argument_tree argument.value))
    (λ arguments. arguments_flaws k (argument_trees arguments)) (λ part more. refl)
    c.args.arguments.now c.loop-argument.argument-index c.argument-item.result c.loop-argument-test.true c.argument-item.is c.loop-argument.invariant
    c.find_ill_formed_value.result (rw c.deref.ensures at (rw c.deref-in-loop-argument.ensures at c.find_ill_formed_value.ensures)) c.in_default.is
