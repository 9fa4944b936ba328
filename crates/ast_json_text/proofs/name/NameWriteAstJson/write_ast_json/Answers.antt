use Rattle.std.proofs.Common.{ap, codes, length, option_map, refl, subst, sym, ◌∙◌}
use Rattle.json.specs.Print.{escape_byte}
use Rattle.graphql_base.specs.Name.{name_text}
use Rattle.ast_json_nodes.specs.code.NodeReading.{IsTextNode, stretch_of}
use Rattle.ast_json_nodes.specs.nodes.Nodes.{told_stretch}
use Rattle.graphql_ast_json.proofs.nodes.NameLocations.{had}
use Rattle.json_text.proofs.ObjectTexts.{weaker}
use Rattle.ast_json_text.proofs.name.NameWriteAstJson.write_ast_json.Goals as goal

pub returns : goal.returns
unfolding escape_byte
returns g c =
    weaker g.met.O.Target.more (c.write_text_node.ensures (codes "Name") refl) (λ json is. (
      λ unknown. subst (λ text. IsTextNode unknown (codes "Name") text json) c.as_str.ensures.text (is.0 unknown),
      ap (option_map stretch_of) (sym c.location.ensures.value)
          ∙ had (length (name_text c.args.self.now)) c.location.result (told_stretch json) c.location.ensures.length is.1,
    ))
