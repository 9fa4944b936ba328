use Rattle.json_text.proofs.ObjectTexts.{weaker}
use Rattle.ast_json_text.proofs.form.OnOneLineWriteForm.write_form.Goals as goal

pub returns : goal.returns
returns g c = weaker g.met.O.Target.more c.write_ast_node.ensures (λ json is unknown. rw c.as_ref.ensures at (is.0 unknown))
