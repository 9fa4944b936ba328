use Rattle.graphql_flaws.proofs.PartsFound.{finds_then}
use Rattle.graphql_flaws.proofs.type_system.InputObjectTypeExtensionFindFlaws.push_flaws.Goals as goal

pub returns : goal.returns
returns c =
    finds_then c.push_nodes.result c.args.search.now c.push_unless.new.self c.push_nodes.new.search _ _
    (rw c.adds_something-adds.ensures at c.in_ok-push_unless.ensures)
    (finds_then c.push_nodes.result c.push_unless.new.self c.push_directives.new.search c.push_nodes.new.search _ _ c.in_ok-push_directives.ensures
    (rw c.deref.ensures.value at c.push_nodes.ensures))
