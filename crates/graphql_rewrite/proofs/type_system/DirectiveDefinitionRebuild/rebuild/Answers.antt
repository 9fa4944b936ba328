use Rattle.std.proofs.Common.{rules, ◌≡◌, map, subst}
use Rattle.std.specs.List.{each_same}
use Rattle.std.specs.Option.{option_map}
use Rattle.graphql_text.specs.trees.Leaves.{description_tree}
use Rattle.graphql_values.specs.trees.DefinitionTrees.{input_value_definition_trees}
use Rattle.graphql_rewrite.specs.Outcomes.{outcome}
use Rattle.graphql_rewrite.specs.kinds.Values.{rewritten_input_value_definition}
use Rattle.graphql_rewrite.proofs.type_system.DirectiveDefinitionRebuild.rebuild.Goals as goal

pub returns-in_ok-clone-in-Some : goal.returns-in_ok-clone-in-Some
returns-in_ok-clone-in-Some g c =
    let old = input_value_definition_trees c.deref.result.now in
    let new = map (rewritten_input_value_definition (g.R.Rewriter.rewriting c.args.rewriter.now)) old in
    let arguments : input_value_definition_trees c.in-Some.arguments.items ≡ new =
    subst (λ made. outcome (λ made. input_value_definition_trees made.items) old made ≡ new) c.in-Some.is c.in_ok-arguments.ensures.trees in
    let description : option_map description_tree c.in_ok-clone-in-Some.field-0.description ≡ option_map description_tree c.args.self.now.description =
    search rules in
    let locations : c.in_ok-clone-in-Some.field-0.locations.items ≡ c.args.self.now.locations.items = search (each_same, rules) in
    search rules
