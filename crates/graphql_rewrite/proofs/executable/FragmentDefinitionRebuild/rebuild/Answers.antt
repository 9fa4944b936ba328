use Rattle.std.proofs.Common.{rules, ◌≡◌}
use Rattle.std.specs.Option.{option_map}
use Rattle.graphql_text.specs.trees.Leaves.{description_tree}
use Rattle.graphql_rewrite.proofs.executable.FragmentDefinitionRebuild.rebuild.Goals as goal

pub returns : goal.returns
returns g c =
    let description : option_map description_tree c.in_ok-clone.field-0 ≡ option_map description_tree c.args.self.now.description =
    search (c.in_ok-clone.ensures.cases, rules) in
    search (c.in_ok-clone-2.ensures, c.in_ok-clone-3.ensures, c.in_ok-or_copy.ensures, c.in_ok-or_copy-2.ensures, rules)
