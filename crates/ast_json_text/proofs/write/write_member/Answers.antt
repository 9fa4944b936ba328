use Rattle.ast_json_nodes.specs.declared.read.Unknown.TheVariants.{Refuse}
use Rattle.graphql_ast_json.specs.lemmas.Leaves.{there}
use Rattle.ast_json_text.proofs.write.write_member.Goals as goal

pub returns : goal.returns
returns g c =
    let made = c.write_form.ensures in record {
      json = made.json;
      text = g.met.O.Target.more _ _ _ _ _ c.text.ensures made.text;
      there =
          there (g.F.WriteForm.is_json_of Refuse) (g.met.F.WriteForm.laws.never_null Refuse) (g.F.WriteForm.tree c.args.value.now) made.json
          (made.is Refuse);
      plain = made.plain;
      is = made.is;
    }
