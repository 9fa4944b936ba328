use Rattle.std.proofs.Common.{◌≡◌, drop}
use Rattle.graphql_values.specs.kinds.Arguments.{arguments_obey}
use Rattle.graphql_values.specs.trees.DirectiveTrees.{argument_trees}
use Rattle.graphql_values.specs.trees.ValueTrees.{constness_of}
use Rattle.graphql_values.proofs.argument.print.are_arguments_well_formed.Given as goal

abbrev pub invariant-loop-argument : goal.invariant-loop-argument
invariant-loop-argument l =
    arguments_obey (constness_of l.constness) (argument_trees (drop l.argument-index l.arguments))
    ≡ arguments_obey (constness_of l.constness) (argument_trees l.arguments)
