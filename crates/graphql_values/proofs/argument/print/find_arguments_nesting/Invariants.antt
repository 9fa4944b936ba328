use Rattle.std.proofs.Common.{◌≡◌, max, drop}
use Rattle.graphql_values.specs.kinds.Arguments.{arguments_nesting}
use Rattle.graphql_values.specs.trees.DirectiveTrees.{argument_trees}
use Rattle.graphql_values.proofs.argument.print.find_arguments_nesting.Given as goal

abbrev pub invariant-loop-argument : goal.invariant-loop-argument
invariant-loop-argument l = max l.most (arguments_nesting (argument_trees (drop l.argument-index l.arguments))) ≡ arguments_nesting (argument_trees l.arguments)
