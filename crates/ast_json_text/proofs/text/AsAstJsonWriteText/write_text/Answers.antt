use Rattle.std.proofs.Common.{refl}
use Rattle.json_text.proofs.PlainTexts.{read_back}
use Rattle.serde_json.specs.Written.{compact_text}
use Rattle.ast_json_text.proofs.text.AsAstJsonWriteText.write_text.Goals as goal

pub returns : goal.returns
returns g c =
    let w = c.write_ast_json.ensures in record {
      bytes = compact_text w.json;
      text = w.text;
      is = record {
        json = w.json;
        is = w.is.0;
        stands = w.is.1;
        written = refl;
        no_float = w.plain.no_float;
        read_back = read_back w.json w.plain;
      };
    }
