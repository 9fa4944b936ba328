use Rattle.std.proofs.Common.{take, map}
use Rattle.serde_json.specs.View.{items_of}
use Rattle.parsed_json.specs.AnyJson.{item_datas}
use Rattle.ast_json_nodes.specs.nodes.Nodes.{Each}
use Rattle.graphql_ast_json.proofs.members.trees.Given as goal

abbrev pub invariant-loop-index : goal.invariant-loop-index
invariant-loop-index g l = Each (g.F.Form.is_json_of l.node.unknown) (map g.F.Form.tree l.values.items) (items_of (take l.index (item_datas l.items)))
