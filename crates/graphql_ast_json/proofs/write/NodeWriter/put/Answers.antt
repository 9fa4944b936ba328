use Rattle.std.proofs.Common.{Some}
use Rattle.ast_json_nodes.specs.declared.read.Unknown.TheVariants.{Refuse}
use Rattle.serde_json.specs.View.{view}
use Rattle.graphql_ast_json.specs.lemmas.Leaves.{there}
use Rattle.graphql_ast_json.proofs.general.OkValues.{one_then}
use Rattle.graphql_ast_json.proofs.write.NodeWriter.put.Goals as goal

pub returns : goal.returns
returns g c =
    let json = view c.in_ok-json.json in
    let is = c.in_ok-json.ensures.ok in
    one_then c.put_json.result c.put_json.ensures.ok (λ _ made. record {
      json = Some json;
      made = made;
      there = there (g.F.Form.is_json_of Refuse) (g.met.F.Form.laws.never_null Refuse) (g.F.Form.tree c.args.value.now) json (is Refuse);
      is = is;
    })
