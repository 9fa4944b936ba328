use Rattle.std.proofs.Common.{◌+◌, ◌*◌}
use Rattle.serde_json.specs.Data.{depth}
use Rattle.serde_json.specs.View.{view}
use Rattle.graphql_ast_json_tests.proofs.start_search.Search.+search.Given as goal

abbrev pub decreases-in_node : goal.decreases-in_node
decreases-in_node l = 2 * depth (view l.self.node.json.now)

abbrev pub decreases-find : goal.decreases-find
decreases-find l = 2 * depth (view l.self.node.json.now) + 1
