use Rattle.std.proofs.Common.{◌≡◌, ◌<◌, ◌≤◌, length, suc, sym, subst, arith}
use Rattle.serde_json.specs.Data.{Data, depth, items_depth, null}
use Rattle.serde_json.specs.View.{items_of}
use Rattle.parsed_json.specs.AnyJson.{any_data, item_datas}
use Rattle.ast_json_nodes.proofs.nodes.JsonDepths.{array-depth, item-depth}
use Rattle.graphql_ast_json.proofs.well_formed.search.Search.+search.Goals as goal

pub find-in_node-requires-in-loop-index : goal.find-in_node-requires-in-loop-index
find-in_node-requires-in-loop-index t c =
    let items = item_datas c.in-Some.items in
    let within : c.loop-index.index < length items = omega (arith, c.len-index-end.ensures) in
    let deep : depth (any_data c.at.result) ≤ items_depth (items_of items) =
    subst (λ (d : Data). depth d ≤ items_depth (items_of items)) (sym c.at.ensures) (item-depth items c.loop-index.index null within) in
    let whole : depth (any_data c.args.json) ≡ suc (items_depth (items_of items)) =
    array-depth (any_data c.args.json) (items_of items) c.in-Some.ensures in
    (omega arith, tt)
