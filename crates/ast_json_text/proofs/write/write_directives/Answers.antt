use Rattle.std.proofs.Common.{sym}
use Rattle.ast_json_text.proofs.write.write_directives.Goals as goal

pub returns : goal.returns
returns g c =
    let one = c.write_list.ensures in record {
      json = one.json;
      text = one.text;
      there = one.there;
      plain = one.plain;
      is = λ unknown. rw (sym c.as_slice.ensures.value) (one.is unknown);
    }
