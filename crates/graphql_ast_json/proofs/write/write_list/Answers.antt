use Rattle.std.proofs.Common.{IsSomeAnd, map, subst, subst₂, sym, take, take_all}
use Rattle.serde_json.proofs.Views.{view-Array}
use Rattle.serde_json.specs.Find.{as_array}
use Rattle.serde_json.specs.View.{items_view}
use Rattle.ast_json_nodes.specs.nodes.Nodes.{Each}
use Rattle.ast_json_nodes.proofs.nodes.NodeLists.{one_more_written, take_next}
use Rattle.graphql_ast_json.proofs.write.write_list.Goals as goal

pub loop-value-preserved : goal.loop-value-preserved
loop-value-preserved g c = λ unknown.
    let Is = g.F.Form.is_json_of unknown in
    let tree = g.F.Form.tree in
    let values = c.args.values.now in
    let i = c.loop-value.value-index in
    let value = c.value-item.result in
    subst₂ (λ taken jsons. Each Is (map tree taken) (items_view jsons))
    (sym (take_next values i value c.loop-value-test.true c.value-item.is)) (sym c.in_ok-push.ensures.ok)
    (one_more_written Is tree (take i values) c.loop-value.list.items value c.in_ok-json.json (c.loop-value.invariant unknown)
    (c.in_ok-json.ensures.ok unknown))

pub returns : goal.returns
returns g c = λ unknown.
    let Is = g.F.Form.is_json_of unknown in
    let tree = g.F.Form.tree in
    let all = take_all c.loop-value.value-index c.args.values.now c.loop-value-test.false in
    subst (λ json. IsSomeAnd (as_array json) (Each Is (map tree c.args.values.now))) (sym (view-Array c.loop-value.list))
    (subst (λ values. Each Is (map tree values) (items_view c.loop-value.list.items)) all (c.loop-value.invariant unknown))
