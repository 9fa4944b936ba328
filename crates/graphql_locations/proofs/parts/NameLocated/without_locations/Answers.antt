use Rattle.graphql_locations.proofs.PartsStripped.{same_if_made}
use Rattle.graphql_locations.proofs.parts.NameLocated.without_locations.Goals as goal

pub returns-clause-tree : goal.returns-clause-tree
returns-clause-tree c = same_if_made c.strip_name.result c.args.self.now c.strip_name.ensures.text
