use Rattle.std.proofs.Common.{◌≡◌, drop}
use Rattle.graphql_text.specs.kinds.Flaws.{first_flaw}
use Rattle.graphql_values.specs.kinds.Arguments.{arguments_flaws}
use Rattle.graphql_values.specs.trees.DirectiveTrees.{argument_trees}
use Rattle.graphql_values.specs.trees.ValueTrees.{constness_of}
use Rattle.graphql_values.proofs.argument.print.find_ill_formed_argument.Given as goal

abbrev pub invariant-loop-argument : goal.invariant-loop-argument
invariant-loop-argument l =
    first_flaw (arguments_flaws (constness_of l.constness) (argument_trees (drop l.argument-index l.arguments)))
    ≡ first_flaw (arguments_flaws (constness_of l.constness) (argument_trees l.arguments))
