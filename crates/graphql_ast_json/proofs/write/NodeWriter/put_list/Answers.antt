use Rattle.std.proofs.Common.{Some, map}
use Rattle.ast_json_nodes.specs.declared.read.Unknown.TheVariants.{Refuse}
use Rattle.serde_json.specs.View.{view}
use Rattle.ast_json_nodes.specs.nodes.Nodes.{Each}
use Rattle.graphql_ast_json.proofs.general.OkValues.{one_then}
use Rattle.graphql_ast_json.proofs.nodes.GivenMembers.{array_there}
use Rattle.graphql_ast_json.proofs.write.NodeWriter.put_list.Goals as goal

pub returns : goal.returns
returns g c =
    let json = view c.in_ok-json.json in
    let are = c.in_ok-json.ensures in
    one_then c.put_json.result c.put_json.ensures.ok (λ _ made. record {
      json = Some json;
      made = made;
      there = array_there json (Each (g.F.Form.is_json_of Refuse) (map g.F.Form.tree c.args.values.now)) (are Refuse);
      is = λ unknown. (are unknown, are unknown);
    })
