use Rattle.std.proofs.Common.{rules, ◌≡◌, ◌+◌, ◌++◌, ◌∷◌, [], drop, take}
use Rattle.std.specs.Prelude.{filter}
use Rattle.graphql_text.specs.trees.Leaves.{name_trees}
use Rattle.graphql_ast.specs.AstTrees.{definition_tree, definition_trees}
use Rattle.graphql_operations.specs.Fragments.{is_fragment_of, reached_from, spreads_within}
use Rattle.graphql_operations.specs.Names.{AreSame}
use Rattle.graphql_operations.proofs.Reached.{if_ok}
use Rattle.graphql_operations.proofs.Separated.{between_is}
use Rattle.graphql_operations.proofs.operations.between.Goals as goal

pub returns : goal.returns
returns c =
    let names = name_trees c.in_ok-names.names.items in
    let reached : AreSame names (reached_from (definition_trees c.args.definitions.now) (spreads_within (definition_tree c.args.operation.now))) =
    search rules in
    let before : definition_trees c.in_ok-before.before.items ≡ filter (is_fragment_of names) (definition_trees (take c.args.index c.args.definitions.now)) =
    search rules in
    let so_far : c.in_ok-so_far.so_far.items ≡ c.in_ok-before.before.items ++ c.args.operation.now ∷ [] = c.in_ok-so_far.ensures in
    if_ok c.with_fragments-2.result (λ all so. between_is c.args.definitions.now (take c.args.index c.args.definitions.now)
    (drop (c.args.index + 1) c.args.definitions.now) c.in_ok-before.before.items all.items c.args.operation.now names reached before (search rules))
    c.with_fragments-2.ensures
