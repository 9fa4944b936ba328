use Rattle.std.proofs.Common.{codes, refl, subst}
use Rattle.json.specs.Print.{escape_byte}
use Rattle.ast_json_nodes.specs.code.NodeReading.{IsTextNode}
use Rattle.json_text.proofs.ObjectTexts.{weaker}
use Rattle.ast_json_text.proofs.directive_location.DirectiveLocationWriteAstNode.write_ast_node.Goals as goal

pub returns : goal.returns
unfolding escape_byte
returns g c =
    weaker g.met.O.Target.more (c.write_text_node.ensures (codes "Name") refl) (λ json is. (
      λ unknown. subst (λ text. IsTextNode unknown (codes "Name") text json) c.name.ensures (is.0 unknown),
      is.1,
    ))
