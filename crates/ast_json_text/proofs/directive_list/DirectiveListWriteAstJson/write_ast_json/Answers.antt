use Rattle.std.proofs.Common.{sym}
use Rattle.json_text.proofs.ObjectTexts.{weaker}
use Rattle.ast_json_text.proofs.directive_list.DirectiveListWriteAstJson.write_ast_json.Goals as goal

pub returns : goal.returns
returns g c = weaker g.met.O.Target.more c.write_array.ensures (λ json are. (λ unknown. rw (sym c.as_slice.ensures.value) (are unknown), tt))
