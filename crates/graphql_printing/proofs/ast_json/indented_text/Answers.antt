use Rattle.serde_json.specs.View.{view}
use Rattle.graphql_printing.proofs.ast_json.indented_text.Goals as goal

pub returns : goal.returns
returns c = record { written = view c.in_ok-json.json; is = c.in_ok-json.ensures.ok; text = c.in_ok-text.ensures }
