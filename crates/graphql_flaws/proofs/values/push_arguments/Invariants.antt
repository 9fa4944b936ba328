use Rattle.std.proofs.Common.{◌≡◌, ◌++◌, take}
use Rattle.graphql_values.specs.kinds.Arguments.{arguments_flaws}
use Rattle.graphql_values.specs.trees.DirectiveTrees.{argument_trees}
use Rattle.graphql_values.specs.trees.ValueTrees.{constness_of}
use Rattle.graphql_flaws.specs.FoundFlaws.{found_by}
use Rattle.graphql_flaws.proofs.values.push_arguments.Given as goal

abbrev pub invariant-loop-index : goal.invariant-loop-index
invariant-loop-index l =
    found_by l.search ≡ found_by l.fn.search ++ arguments_flaws (constness_of l.constness) (argument_trees (take l.index l.arguments))
