use Rattle.std.proofs.Common.{◌≡◌, ℕ, suc, ◌<◌, List, ◌∷◌, ◌++◌, length, take, drop, map, sym, ap, ◌∙◌, subst, subst₂, arith, drop-cons}
use Rattle.std.proofs.lemmas.Grind.{common_steps}
use Rattle.std.proofs.lemmas.List.{length-take-le, take-append-drop, take_all}
use Rattle.serde_json.specs.Data.{Data, null}
use Rattle.serde_json.specs.View.{items_of}
use Rattle.parsed_json.specs.AnyJson.{any_data, item_datas}
use Rattle.ast_json_nodes.specs.code.Paths.{item_name}
use Rattle.ast_json_nodes.specs.code.ToldErrors.{IsToldFrom}
use Rattle.ast_json_nodes.specs.nodes.Nodes.{Each}
use Rattle.ast_json_nodes.proofs.nodes.NodeLists.{one_more, none_each, take_item}
use Rattle.graphql_ast_json.proofs.members.trees.Goals as goal

pub returns-in-Err-clause-err : goal.returns-in-Err-clause-err
returns-in-Err-clause-err g c refused =
    let Is = g.F.Form.is_json_of c.args.node.unknown in
    let items = item_datas c.args.items in
    let within : c.loop-index.index < length items = omega (arith, c.len.ensures) in
    none_each Is items c.loop-index.index null within
    (λ tree is. c.in-Err.ensures.err (λ m. refused (c.in_item.ensures.memory m)) tree (subst (λ (d : Data). Is tree d) (sym c.at-json.ensures) is))

pub returns-in-Err-clause-told : goal.returns-in-Err-clause-told
returns-in-Err-clause-told g c refused =
    let items = item_datas c.args.items in
    let i = c.loop-index.index in
    let json = any_data c.at-json.result in
    let within : i < length items = omega (arith, c.len.ensures) in
    record {
      before = take i items;
      json = json;
      after = drop (suc i) items;
      are = ap items_of (sym (take-append-drop i items) ∙ ap (λ (ds : List Data). take i items ++ ds)
          (drop-cons items i null within ∙ ap (λ (d : Data). d ∷ drop (suc i) items) (sym c.at-json.ensures)));
      trees = map g.F.Form.tree c.loop-index.values.items;
      read = c.loop-index.invariant;
      none = c.in-Err.ensures.err (λ m. refused (c.in_item.ensures.memory m));
      inner = c.in-Err.error;
      told = subst (λ (n : ℕ). IsToldFrom (item_name n) (λ location told_location. told_location ≡ location) c.in-Err.error c.in_item.result)
          (sym (length-take-le i items (omega (arith, within)))) c.in_item.ensures.told;
    }

pub returns-in_err-push-in-Ok-clause-err : goal.returns-in_err-push-in-Ok-clause-err
returns-in_err-push-in-Ok-clause-err g c = grind (arith, common_steps)

pub loop-index-preserved : goal.loop-index-preserved
loop-index-preserved g c =
    let Is = g.F.Form.is_json_of c.args.node.unknown in
    let tree = g.F.Form.tree in
    let items = item_datas c.args.items in
    let i = c.loop-index.index in
    let within : i < length items = omega (arith, c.len.ensures) in
    let taken = take_item items i (any_data c.at-json.result) null within c.at-json.ensures in
    subst₂ (λ values jsons. Each Is (map tree values) (items_of jsons)) (sym c.in_ok-push-in-Ok.ensures.items) (sym taken)
    (one_more Is tree c.loop-index.values.items (take i items) c.in-Ok.value (any_data c.at-json.result) c.loop-index.invariant c.in-Ok.ensures.ok)

pub returns-clause-ok : goal.returns-clause-ok
returns-clause-ok g c =
    let items = item_datas c.args.items in
    subst (λ (ds : List Data). Each (g.F.Form.is_json_of c.args.node.unknown) (map g.F.Form.tree c.loop-index.values.items) (items_of ds))
    (take_all c.loop-index.index items (omega (arith, c.len.ensures))) c.loop-index.invariant
