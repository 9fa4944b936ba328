use Rattle.serde_json.specs.View.{view}
use Rattle.ast_json_text.proofs.text.to_ast_json_text_by_value.Goals as goal

pub returns : goal.returns
returns g c =
    let text = c.in_ok-text.ensures in record {
      text = record {
        json = view c.in_ok-json.json;
        is = c.in_ok-json.ensures.ok;
        stands = c.in_ok-json.ensures.stands;
        written = text.text;
        order = text.order;
        read_back = text.reads_back;
      };
    }
