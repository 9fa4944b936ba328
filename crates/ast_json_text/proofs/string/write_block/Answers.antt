use Rattle.std.proofs.Common.{Some, None, true, refl}
use Rattle.serde_json.specs.Data.{boolean}
use Rattle.json_text.proofs.PlainTexts.{plain_boolean}
use Rattle.ast_json_text.proofs.string.write_block.Goals as goal

pub returns-then-is_block : goal.returns-then-is_block
returns-then-is_block g c = record { json = Some (boolean true); text = c.text.ensures; there = refl; plain = plain_boolean; is = rw c.if-is_block.true refl }

pub returns-else-is_block : goal.returns-else-is_block
returns-else-is_block g c = record { json = None; text = g.met.O.Target.nothing _; there = refl; plain = tt; is = rw c.if-is_block.false refl }
