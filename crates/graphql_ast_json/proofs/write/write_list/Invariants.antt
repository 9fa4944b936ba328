use Rattle.std.proofs.Common.{map, take}
use Rattle.serde_json.specs.View.{items_view}
use Rattle.ast_json_nodes.specs.declared.read.Unknown.{Unknown}
use Rattle.ast_json_nodes.specs.nodes.Nodes.{Each}
use Rattle.graphql_ast_json.proofs.write.write_list.Given as goal

abbrev pub invariant-loop-value : goal.invariant-loop-value
invariant-loop-value g l = (unknown : Unknown) → Each (g.F.Form.is_json_of unknown) (map g.F.Form.tree (take l.value-index l.values)) (items_view l.list.items)
