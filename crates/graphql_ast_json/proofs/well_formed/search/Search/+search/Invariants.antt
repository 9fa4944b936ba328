use Rattle.std.proofs.Common.{◌+◌, ◌*◌}
use Rattle.serde_json.specs.Data.{depth}
use Rattle.parsed_json.specs.AnyJson.{any_data}
use Rattle.graphql_ast_json.proofs.well_formed.search.Search.+search.Given as goal

abbrev pub decreases-in_node : goal.decreases-in_node
decreases-in_node l = 2 * depth (any_data l.json)

abbrev pub decreases-find : goal.decreases-find
decreases-find l = 2 * depth (any_data l.json) + 1
