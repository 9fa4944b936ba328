use Rattle.std.proofs.Common.{◌≡◌, ◌≤◌, suc, sym, ap, subst, ◌∙◌, arith}
use Rattle.serde_json.proofs.Views.{view-Array}
use Rattle.serde_json.specs.Data.{depth, items_depth}
use Rattle.serde_json.specs.View.{view, items_view}
use Rattle.serde_json.specs.declared.value.Value as json
use Rattle.graphql_ast_json_tests.proofs.JsonDepths.{item-depth}
use Rattle.graphql_ast_json_tests.proofs.start_search.Search.+search.Goals as goal

pub find-in_node-requires-in-loop-index : goal.find-in_node-requires-in-loop-index
find-in_node-requires-in-loop-index t c =
    let items = c.deref-json-items.result.now in
    let deep : depth (view c.json-item.result) ≤ items_depth (items_view items) =
    subst (λ (v : json.Value). depth (view v) ≤ items_depth (items_view items)) (sym c.json-item.is)
    (item-depth items c.loop-index.index c.json-item.result c.loop-index-test.true) in
    let whole : depth (view c.args.self.node.json.now) ≡ suc (items_depth (items_view items)) =
    ap (λ (v : json.Value). depth (view v)) c.in-Array.is ∙ ap depth (view-Array c.in-Array.items)
    ∙ ap (λ l. suc (items_depth (items_view l))) (sym c.deref-json-items.ensures.value) in
    (omega arith, tt)
