use Rattle.graphql_text.specs.trees.Leaves.{name_trees}
use Rattle.graphql_ast.specs.AstTrees.{definition_trees}
use Rattle.graphql_operations.specs.Fragments.{after_steps}
use Rattle.graphql_operations.specs.Names.{AreSame}
use Rattle.graphql_operations.proofs.fragments.reached_from.Given as goal

abbrev pub invariant-loop-step : goal.invariant-loop-step
invariant-loop-step l =
    AreSame (name_trees l.names.items) (after_steps l._step (definition_trees l.definitions) (name_trees l.fn.start.items))
