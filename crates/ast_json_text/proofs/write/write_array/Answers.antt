use Rattle.std.proofs.Common.{map, subst, sym, take, take_all}
use Rattle.serde_json.specs.Data.{array}
use Rattle.ast_json_nodes.specs.nodes.Nodes.{Each}
use Rattle.ast_json_nodes.proofs.nodes.NodeLists.{take_next}
use Rattle.json_text.proofs.ArrayTexts.{added, array_ended, next_item, no_items_yet}
use Rattle.json_text.proofs.PlainTexts.{plain_array}
use Rattle.ast_json_text.proofs.AddedItems.{each_added}
use Rattle.ast_json_text.proofs.write.write_array.Goals as goal

pub loop-value-init : goal.loop-value-init
loop-value-init g c = no_items_yet g.met.O.Target.more c.text.ensures (λ unknown. tt)

pub loop-value-preserved : goal.loop-value-preserved
loop-value-preserved g c =
    let i = c.loop-value.value-index in
    let values = c.args.values.now in
    let value = c.value-item.result in
    let so_far = c.loop-value.invariant in
    let made = c.write_form.ensures in
    next_item g.met.O.Target.more made.json so_far c.write_comma.ensures made.text made.plain (λ are unknown.
    let Is = g.F.WriteForm.is_json_of unknown in
    let tree = g.F.WriteForm.tree in
    subst (λ taken. Each Is (map tree taken) (added so_far.items made.json)) (sym (take_next values i value c.loop-value-test.true c.value-item.is))
    (each_added Is tree (take i values) value so_far.items made.json (are unknown) (made.is unknown)))

pub returns : goal.returns
returns g c =
    let all = take_all c.loop-value.value-index c.args.values.now c.loop-value-test.false in
    let so_far = c.loop-value.invariant in record {
      json = array so_far.items;
      text = array_ended g.met.O.Target.more so_far c.text-2.ensures;
      plain = plain_array so_far.items so_far.plain;
      is = λ unknown. subst (λ values. Each (g.F.WriteForm.is_json_of unknown) (map g.F.WriteForm.tree values) so_far.items) all (so_far.are unknown);
    }
