use Rattle.std.proofs.Common.{Some, None, ◌++◌, ◌∷◌, [], append_assoc, option_map, refl, subst, sym}
use Rattle.serde_json.specs.Written.{compact_text}
use Rattle.ast_json_nodes.specs.nodes.Nodes.{IsOptional}
use Rattle.ast_json_text.proofs.write.write_leading.Goals as goal

pub returns-in-Some : goal.returns-in-Some
returns-in-Some g c =
    let one = c.write_member.ensures in
    let wrote = g.O.Target.wrote in record {
      json = Some one.json;
      text = subst (λ t. wrote c.args.out.now t c.text.new.self) (append_assoc c.args.key.now (compact_text one.json) (44 ∷ []))
          (g.met.O.Target.more _ _ _ _ _ one.text c.text.ensures);
      there = one.there;
      plain = one.plain;
      is = λ unknown.
          subst (λ value. IsOptional (g.F.WriteForm.is_json_of unknown) (option_map g.F.WriteForm.tree value) (Some one.json)) (sym c.in-Some.is)
          (one.is unknown);
    }

pub returns-in-None : goal.returns-in-None
returns-in-None g c = record {
  json = None;
  text = g.met.O.Target.nothing _;
  there = refl;
  plain = tt;
  is = λ unknown. subst (λ value. IsOptional (g.F.WriteForm.is_json_of unknown) (option_map g.F.WriteForm.tree value) None) (sym c.in-None.is) tt;
}
