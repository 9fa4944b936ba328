use Rattle.std.proofs.Common.{rules, ◌≡◌, true, false, take}
use Rattle.graphql_text.specs.trees.Leaves.{name_trees}
use Rattle.graphql_ast.specs.AstTrees.{definition_tree}
use Rattle.graphql_operations.specs.Fragments.{is_fragment_of, spreads_within}
use Rattle.graphql_operations.proofs.Reached.{if_ok, none_added, some_added}
use Rattle.graphql_operations.proofs.fragments.with_spreads.Goals as goal

pub returns-then-not-is_fragment_of-clause-same : goal.returns-then-not-is_fragment_of-clause-same
returns-then-not-is_fragment_of-clause-same c =
    let other : is_fragment_of (name_trees (take c.args.count c.args.all.items)) (definition_tree c.args.definition.now) ≡ false = search rules in
    none_added c.args.all.items _ (spreads_within (definition_tree c.args.definition.now)) other

pub returns-clause-same : goal.returns-clause-same
returns-clause-same c =
    let named : is_fragment_of (name_trees (take c.args.count c.args.all.items)) (definition_tree c.args.definition.now) ≡ true = search rules in
    if_ok c.with_new.result (λ more. some_added c.args.all.items more.items _ (spreads_within (definition_tree c.args.definition.now)) _ named
    c.in_ok-fragment_spreads.ensures) c.with_new.ensures.same
