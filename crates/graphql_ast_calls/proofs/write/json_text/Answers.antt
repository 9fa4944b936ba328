use Rattle.graphql_ast_calls.proofs.write.json_text.Goals as goal

pub returns : goal.returns
returns c = let is = c.in_ok-text.ensures.text in record { written = is.json; is = is.is; text = is.read_back }
