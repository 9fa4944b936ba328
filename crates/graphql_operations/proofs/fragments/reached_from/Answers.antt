use Rattle.std.proofs.Common.{rules, ◌≡◌, ◌<◌, ◌≤◌, length, add-one, sym, subst, arith}
use Rattle.std.proofs.lemmas.List.{length-map}
use Rattle.graphql_text.specs.trees.Leaves.{name_trees}
use Rattle.graphql_ast.specs.AstTrees.{definition_tree, definition_trees}
use Rattle.graphql_operations.specs.Fragments.{after_steps, further}
use Rattle.graphql_operations.specs.Names.{AreSame}
use Rattle.graphql_operations.proofs.Reached.{nothing_more, one_step, same_length}
use Rattle.graphql_operations.proofs.fragments.reached_from.Goals as goal

pub returns-then-len-count : goal.returns-then-len-count
returns-then-len-count c =
    let definitions = definition_trees c.args.definitions.now in
    let start = name_trees c.args.start.items in
    let names = c.in_ok-names.names.items in
    let as_long : length names ≡ length c.loop-step.names.items = search rules in
    let same : names ≡ c.loop-step.names.items = same_length c.loop-step.names.items names c.in_ok-names.ensures.begins as_long in
    let count : length definitions ≡ length c.args.definitions.now = length-map c.args.definitions.now definition_tree in
    let below : c.loop-step._step < length c.args.definitions.now = search rules in
    let within : c.loop-step._step ≤ length definitions = omega arith in
    nothing_more definitions start (name_trees names) c.loop-step._step (length definitions) within
    (subst (λ l. AreSame (name_trees l) (after_steps c.loop-step._step definitions start)) (sym same) c.loop-step.invariant)
    (subst (λ l. AreSame (name_trees names) (further definitions (name_trees l))) (sym same) c.in_ok-names.ensures.same)

pub loop-step-preserved : goal.loop-step-preserved
loop-step-preserved c =
    let definitions = definition_trees c.args.definitions.now in
    let start = name_trees c.args.start.items in
    let names = c.in_ok-names.names.items in
    subst (λ n. AreSame (name_trees names) (after_steps n definitions start)) (sym (add-one c.loop-step._step))
    (one_step definitions start (name_trees c.loop-step.names.items) (name_trees names) c.loop-step._step c.loop-step.invariant
    c.in_ok-names.ensures.same)
