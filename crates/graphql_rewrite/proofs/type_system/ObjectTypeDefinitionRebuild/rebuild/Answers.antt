use Rattle.std.proofs.Common.{rules, ◌≡◌}
use Rattle.std.specs.List.{each_same}
use Rattle.graphql_rewrite.proofs.type_system.ObjectTypeDefinitionRebuild.rebuild.Goals as goal

pub returns : goal.returns
returns g c =
    let interfaces : c.in_ok-clone-3.field-0.items ≡ c.args.self.now.implements_interfaces.items = search (each_same, c.in_ok-clone-3.ensures, rules) in
    search (c.in_ok-clone.ensures, c.in_ok-clone-2.ensures, c.in_ok-or_copy.ensures, c.in_ok-or_copy-2.ensures, rules)
