use Rattle.std.proofs.Common.{refl}
use Rattle.serde_json.specs.Data.{string}
use Rattle.json_text.proofs.PlainTexts.{plain_string}
use Rattle.ast_json_text.proofs.write.write_text.Goals as goal

pub returns : goal.returns
returns g c = record {
  json = string c.args.text.now;
  text = g.met.O.Target.more _ _ _ _ _ c.text.ensures c.write_string.ensures;
  there = refl;
  plain = plain_string;
  is = refl;
}
