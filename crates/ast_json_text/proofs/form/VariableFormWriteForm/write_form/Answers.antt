use Rattle.json_text.proofs.ObjectTexts.{weaker}
use Rattle.ast_json_text.proofs.form.VariableFormWriteForm.write_form.Goals as goal

pub returns : goal.returns
returns g c = weaker g.met.O.Target.more c.write_variable.ensures (λ json is. is.0)
