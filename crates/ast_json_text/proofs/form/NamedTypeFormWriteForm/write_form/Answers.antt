use Rattle.json_text.proofs.ObjectTexts.{weaker}
use Rattle.ast_json_text.proofs.form.NamedTypeFormWriteForm.write_form.Goals as goal

pub returns : goal.returns
returns g c = weaker g.met.O.Target.more c.write_named_type.ensures (λ json is. is.0)
