use Rattle.std.proofs.Common.{map}
use Rattle.ast_json_nodes.specs.declared.read.Unknown.TheVariants.{Refuse}
use Rattle.ast_json_nodes.specs.nodes.Nodes.{Each}
use Rattle.graphql_ast_json.proofs.nodes.GivenMembers.{array_there}
use Rattle.ast_json_text.proofs.write.write_list.Goals as goal

pub returns : goal.returns
returns g c =
    let made = c.write_array.ensures in record {
      json = made.json;
      text = g.met.O.Target.more _ _ _ _ _ c.text.ensures made.text;
      there = array_there made.json (Each (g.F.WriteForm.is_json_of Refuse) (map g.F.WriteForm.tree c.args.values.now)) (made.is Refuse);
      plain = made.plain;
      is = made.is;
    }
